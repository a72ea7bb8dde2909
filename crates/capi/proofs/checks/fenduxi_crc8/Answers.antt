use Rattle.capi.proofs.checks.fenduxi_crc8.Goals as goal

pub returns : goal.returns
returns c = c.crc8.ensures
