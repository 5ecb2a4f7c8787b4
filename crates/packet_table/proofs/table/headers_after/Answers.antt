-- The table is the list of the rule's values, which antt computes; the rule at the place of a header is the header's (`entry_is`).
use mathlib.Core.Path.{◌∙◌}
use Rattle.laws.proofs.Tabled.{at}
use Rattle.packet_table.specs.Table.{follows, type_of, delivery_of, ordering_of}
use Rattle.packet_table.specs.declared.table.Following.TheVariants.{Unlisted}
use Rattle.packet_table.proofs.Rule.{place_below, entry, entry_is}
use Rattle.packet_table.proofs.table.headers_after.Goals as goal

pub returns : goal.returns
unfolding follows entry type_of delivery_of ordering_of
returns c =
    let s = c.args.standard in
    rw (c.from.ensures, c.from-2.ensures, c.from-3.ensures)
    (at entry Unlisted 18 _ (place_below s.packet_type s.delivery s.ordering) ∙ entry_is s.packet_type s.delivery s.ordering)
