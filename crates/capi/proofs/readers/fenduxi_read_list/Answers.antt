use Rattle.std.proofs.Common.{Option, ◌/◌, ◌%◌, ap, ◌∙◌}
use Rattle.list.specs.Lists.{Listing}
use Rattle.crossing.specs.Reading.{head_of}
use Rattle.capi.specs.Reading.{is_list, head_after_list, rows_after_list}
use Rattle.capi.proofs.readers.fenduxi_read_list.Goals as goal

pub returns : goal.returns
returns c =
    let listing = c.in-Some.ensures.listing in
    let transmission = c.in-Some.read.transmission in
    let none = c.default.ensures in
    let shown = c.show_list-overflow.ensures in
    record {
      said = ap is_list listing;
      head =
          (λ i. head_of 5 (none.1.0 i) (none.1.1.0 i) (none.1.1.1.0 i) (transmission / 8) (transmission % 8) (shown.overflow i) (shown.number i))
          ∙ ap (λ (l : Option Listing). head_after_list l c.args.head.now) listing;
      rows = shown.rows ∙ ap (λ (l : Option Listing). rows_after_list l c.args.rows.now) listing;
    }

pub returns-in_default : goal.returns-in_default
returns-in_default c =
    let listing = c.in_default.ensures.listing in
    record {
      said = ap is_list listing;
      head = ap (λ (l : Option Listing). head_after_list l c.args.head.now) listing;
      rows = ap (λ (l : Option Listing). rows_after_list l c.args.rows.now) listing;
    }
