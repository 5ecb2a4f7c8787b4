-- The headers and the first piece are those of the definition, so what is written is its datagram.
use mathlib.Core.Path.{◌≡◌, refl, ap, ◌∙◌}
use lib.ListN.{length}
use Rattle.packet_table.specs.Table.{follows}
use Rattle.datagrams.specs.Datagrams.{standard_for}
use Rattle.datagrams.proofs.first.Goals as goal
use Rattle.datagrams.proofs.first.Goals.{After-headers_after-following}

listing : (c : After-headers_after-following) → c.headers_after-following.result ≡ follows (standard_for c.args.f c.args.item (length c.args.payload.now))
listing c = c.headers_after-following.ensures ∙ ap follows c.standard.ensures

pub headers-headers-requires : goal.headers-headers-requires
headers-headers-requires c =
    let p = c.requires in
    (listing (goal.at.headers-headers-requires c).After-headers_after-following, p.0, p.1, p.2, p.3, p.5)

pub write-requires : goal.write-requires
write-requires c = rw (c.headers-headers.ensures, c.first_piece.ensures, listing (goal.at.write-requires c).After-headers_after-following) (refl, c.requires.4)

pub returns : goal.returns
returns c = rw (← c.headers-headers.ensures, ← c.first_piece.ensures) c.write.ensures
