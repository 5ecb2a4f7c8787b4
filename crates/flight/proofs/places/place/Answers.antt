-- Each way out is a case of `place_of`.
use Rattle.std.proofs.Common.{ℕ, ◌%◌, length, sym, ap, ◌∙◌, mod-lt}
use Rattle.keys.specs.Keys.{first_place, found}
use Rattle.flight.specs.Entry.{numbers_in}
use Rattle.flight.proofs.Found.{found_at, found_is, found_none}
use Rattle.flight.proofs.Room.{at_first, at_free, at_own}
use Rattle.flight.proofs.places.place.Goals as goal

pub returns-in-Some : goal.returns-in-Some
returns-in-Some c =
    let n = c.args.packet.0 in
    let words = c.args.number.now in
    let e = sym c.find.ensures ∙ c.in-Some.is in
    sym e ∙ ap (λ (k : ℕ). found k (length words)) (at_first n words c.requires (found_is (first_place n (numbers_in words)) (length words) c.in-Some.at e).1)

pub returns-then-number-own-lt-NO_PACKET : goal.returns-then-number-own-lt-NO_PACKET
returns-then-number-own-lt-NO_PACKET c =
    let n = c.args.packet.0 in
    let words = c.args.number.now in
    c.first_free.ensures
    ∙ ap (λ (k : ℕ). found k (length words))
    (at_free n words c.requires (found_none (first_place n (numbers_in words)) (length words) (sym c.find.ensures ∙ c.in_default.is)) c.if-number-own-lt-NO_PACKET.true)

pub returns : goal.returns
returns c =
    let n = c.args.packet.0 in
    let words = c.args.number.now in
    let own = at_own n words c.requires (found_none (first_place n (numbers_in words)) (length words) (sym c.find.ensures ∙ c.in_default.is)) c.if-number-own-lt-NO_PACKET.false in
    sym (ap (λ (k : ℕ). found k (length words)) (sym own) ∙ found_at (n % length words) (length words) (mod-lt n {m = length words} c.requires))
