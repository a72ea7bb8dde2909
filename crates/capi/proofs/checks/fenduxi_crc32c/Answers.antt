use Rattle.capi.proofs.checks.fenduxi_crc32c.Goals as goal

pub returns : goal.returns
returns c = c.crc32c.ensures
