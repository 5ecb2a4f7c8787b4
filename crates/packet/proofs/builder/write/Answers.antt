-- Three runs, one after the other, are the datagram (`whole`).
use mathlib.Core.Path.{◌≡◌, sym, ap, ◌∙◌}
use Prim.Native.Nat.{ℕ, ◌+◌, ◌≤◌}
use mathlib.Core.List.{List, ◌++◌}
use lib.ListN.{length, drop}
use native.Mathlib.Omega.{arith}
use Rattle.packet_table.specs.declared.table.Following.{Following}
use Rattle.packet_table.specs.Table.{follows}
use Rattle.packet_table.specs.Layout.{payload_at, datagram}
use Rattle.packet_table.proofs.Lengths.{datagram_length}
use Rattle.packet_table.proofs.Output.{put}
use Rattle.packet.proofs.Whole.{whole}
use Rattle.packet.proofs.builder.write.Goals as goal
use Rattle.packet.proofs.builder.write.Goals.{After-payload_at-at}

-- the payload starts where the table has it
place : (c : After-payload_at-at) → c.payload_at-at.result ≡ payload_at (follows c.args.headers.standard) c.args.headers.fragment.id
place c = c.payload_at-at.ensures ∙ ap (λ (f : Following). payload_at f c.args.headers.fragment.id) c.requires.0

pub write_standard_header-requires : goal.write_standard_header-requires
write_standard_header-requires c = omega (arith, c.payload_at-at.ensures, c.requires.1)

pub returns : goal.returns
returns c =
    let a = c.args in
    let p : List ℕ = a.payload.now in
    let o : List ℕ = a.output.now in
    let at = place (goal.at.returns c).After-payload_at-at in
    let long : payload_at (follows a.headers.standard) a.headers.fragment.id + length p ≤ length o = omega (arith, at, c.payload_at-at.ensures, c.requires.1) in
    let headed = c.write_following.new.output in
    let room : c.payload_at-at.result + length p ≤ length headed = omega arith in
    let all = datagram_length a.version a.headers p in
    record {
      length_is = ap (λ (n : ℕ). n + length p) at ∙ sym all;
      output_is = rw c.copy.ensures.after
          (put headed p c.payload_at-at.result room
          ∙ rw (
            c.write_following.ensures,
            c.write_standard_header.ensures,
            at,
            c.requires.0,
          )
          (whole a.version a.headers p o long ∙ ap (λ (n : ℕ). datagram a.version a.headers p ++ drop n o) (sym all)));
    }
