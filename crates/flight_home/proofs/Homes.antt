-- What the places of a table say of the whole. Assumes nothing.
--     lap_multiple    a number without its remainder
--     all_home        places at home make a table at home
--     home_sound      which is not 13
--     first_here, first_away     where a number is in a table at home
--     place_here, place_free     where it goes
use mathlib.Core.Path.{◌≡◌, sym, ap, ◌∙◌}
use mathlib.Core.Bool.{true}
use mathlib.Core.List.{List}
use mathlib.Core.Logic.{⊎_elim, inl, inr}
use Prim.Native.Nat.{ℕ, ◌-◌, ◌*◌, ◌/◌, ◌%◌, ◌≤◌, ◌<◌}
use native.Mathlib.Nat.{mod-lt, div-add-mod', mul-mod_left}
use native.Mathlib.Omega.{arith}
use lib.ListN.{length, get_or}
use Rattle.std.specs.Prelude.{Some, None}
use Rattle.key_parts.specs.Words.{no_packet}
use Rattle.keys.specs.Home.{Home}
use Rattle.keys.specs.Keys.{first_place, found}
use Rattle.keys.proofs.Homes.{step_home, home_once, home_here, home-away}
use Rattle.flight.specs.Entry.{numbers_in}
use Rattle.flight.specs.Places.{sound, place_of}
use Rattle.flight.proofs.Found.{found_at, found_out}
use Rattle.flight.proofs.Room.{at_first, at_own}
use Rattle.flight.proofs.Stays.{fits_all}
use Rattle.flight.proofs.Words.{has_number, is_number, numbers_length, numbers_at}
use Rattle.flight_home.specs.AtHome.{AtHome, PlaceHome}

pub lap_multiple : (n a : ℕ) → (a - a % n) % n ≡ 0
lap_multiple n a =
    let e : a - a % n ≡ (a / n) * n = omega (arith, div-add-mod' a n) in
    ap (λ (x : ℕ). x % n) e ∙ mul-mod_left (a / n) n

pub all_home : (room lap last : ℕ) (number : List ℕ) → lap % length number ≡ 0 → last % length number ≡ 0
    → ((j : ℕ) → j < length number → PlaceHome room lap last number j)
    → AtHome room number
all_home room lap last number z y h =
    let long = numbers_length number in
    record {
      home = record {
        own = λ j q key.
            let within : j < length number = omega arith in
            let e = numbers_at number j within in
            let v = is_number (get_or number j 0) (omega arith) in
            let step = (h j within v).0 in
            ap (λ (x : ℕ). get_or (numbers_in number) j 0 % x) long
            ∙ step_home (length number) lap last j (get_or (numbers_in number) j 0) z y within
            (λ k. ⊎_elim (λ a. inl (e ∙ has_number (get_or number j 0) v ∙ a)) (λ a. inr (e ∙ has_number (get_or number j 0) v ∙ a)) step) key;
      };
      fits = fits_all room number (λ j q v. (h j q v).1);
    }

pub home_sound : (room : ℕ) (number : List ℕ) → AtHome room number → sound room number ≡ true
unfolding sound
home_sound room number h = rw (h.fits, home_once (numbers_in number) h.home)

-- the word at a place has a number, or another
module _ (n : ℕ) (number : List ℕ) (small : n < 65536) (j : ℕ) (within : j < length number) where
  pub number_is : get_or number j 0 / 32768 ≡ n → get_or (numbers_in number) j 0 ≡ n
  number_is e = numbers_at number j within ∙ has_number (get_or number j 0) (omega arith) ∙ e

  pub number_not : (get_or number j 0 / 32768 ≡ n → ⊥) → get_or (numbers_in number) j 0 ≡ n → ⊥
  number_not apart e =
      let q = numbers_at number j within in
      let v = is_number (get_or number j 0) (omega arith) in
      apart (omega (arith, has_number (get_or number j 0) v))

module _ (n : ℕ) (number : List ℕ) (small : n < 65536) (some : 0 < length number) (h : Home (numbers_in number)) where
  abbrev keys : List ℕ
  keys = numbers_in number

  own_place : n % length (numbers_in number) ≡ n % length number
  own_place = ap (λ (x : ℕ). n % x) (numbers_length number)

  within : n % length number < length number
  within = mod-lt n {m = length number} some

  some_key : 0 < length (numbers_in number)
  some_key = rw (numbers_length number) some

  own_first : get_or number (n % length number) 0 / 32768 ≡ n → n % length number ≡ first_place n (numbers_in number)
  own_first e =
      sym own_place ∙ sym (home_here keys h n small some_key (ap (λ (x : ℕ). get_or keys x 0) own_place ∙ number_is n number small (n % length number) within e))

  away : (get_or number (n % length number) 0 / 32768 ≡ n → ⊥) → length number ≡ first_place n (numbers_in number)
  away apart =
      sym (numbers_length number)
      ∙ sym (home-away keys h n small (λ e. number_not n number small (n % length number) within apart (ap (λ (x : ℕ). get_or keys x 0) (sym own_place) ∙ e)))

  -- what is its own place is found there
  own_found : (at : ℕ) → n % length number ≡ at → Some (n % length number) ≡ found at (length number)
  own_found at e = sym (ap (λ (k : ℕ). found k (length number)) (sym e) ∙ found_at (n % length number) (length number) within)

  pub first_here : get_or number (n % length number) 0 / 32768 ≡ n → Some (n % length number) ≡ found (first_place n (numbers_in number)) (length number)
  first_here e = own_found (first_place n (numbers_in number)) (own_first e)

  pub first_away : (get_or number (n % length number) 0 / 32768 ≡ n → ⊥) → None ≡ found (first_place n (numbers_in number)) (length number)
  first_away apart = sym (found_out (first_place n (numbers_in number)) (length number) (omega (arith, away apart)))

  pub place_here : get_or number (n % length number) 0 / 32768 ≡ n → Some (n % length number) ≡ found (place_of n (numbers_in number)) (length number)
  place_here e = own_found (place_of n (numbers_in number)) (own_first e ∙ at_first n number some (omega (arith, own_first e, within)))

  pub place_free : no_packet ≤ get_or number (n % length number) 0 → Some (n % length number) ≡ found (place_of n (numbers_in number)) (length number)
  place_free v = own_found (place_of n (numbers_in number)) (at_own n number some (omega (arith, away (λ e. omega arith))) v)
