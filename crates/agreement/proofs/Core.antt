-- One ordered stream by what it expects and what it holds: what holds after every event, and that each event keeps it. The ends
-- are not seen here. Assumes nothing.
use Prim.Native.Nat.{ℕ, suc, ◌+◌, ◌≤◌, ◌<◌, ◌%◌}
use mathlib.Core.Path.{◌≡◌, refl, sym, ap, ◌∙◌}
use mathlib.Core.Logic.{◌⊎◌, inl, inr, ⊎_elim}
use mathlib.Core.Bool.{Bool, true, false}
use mathlib.Core.List.{List, [], ◌∷◌, ◌++◌}
use native.Mathlib.Numerals.{add-one}
use native.Mathlib.Omega.{arith}
use lib.Dec.{T}
use lib.ListN.{length, get_or, take, length-append, get_or-append}
use lib.Seq.{take-suc, take-append-le}
use Rattle.std.specs.Prelude.{Option, Some, None}
use Rattle.serial.specs.Order.{back, next}
use Rattle.ordering_laws.proofs.Found.{same?}
use Rattle.laws.proofs.Cases.{lt_or_le}
use Rattle.agreement.specs.Agreement.{Has}

abbrev pub Holding : Type 0
Holding = ℕ → Option (List ℕ)

-- what is held under an index is the item at a position, of which a copy was accepted
pub record At (sent : List (List ℕ)) (e : ℕ) (accepted : List ℕ) (i : ℕ) (b : List ℕ) : Type 0 where
  pub q : ℕ
  pub low : e ≤ q
  pub high : q ≤ e + 32768
  pub was : q < length sent
  pub index : i ≡ q % 65536
  pub bytes : b ≡ get_or sent q []
  pub known : Has q accepted

-- an accepted item was handed out or is held
abbrev pub Where : ℕ → Holding → ℕ → Type 0
Where e holds j = (j < e) ⊎ ((e ≤ j) × (j ≤ e + 32768) × ((b : List ℕ) × (holds (j % 65536) ≡ Some b)))

pub record Inv (sent handed : List (List ℕ)) (accepted : List ℕ) (quiet : Bool) (x : ℕ) (holds : Holding) : Type 0 where
  pub begins : handed ≡ take (length handed) sent
  pub below : length handed ≤ length sent
  pub expects : x ≡ length handed % 65536
  pub holding : (i : ℕ) (b : List ℕ) → i < 65536 → holds i ≡ Some b → At sent (length handed) accepted i b
  pub done : (j : ℕ) → j < length handed → Has j accepted
  pub sents : (j : ℕ) → Has j accepted → j < length sent
  pub kept : (j : ℕ) → Has j accepted → Where (length handed) holds j
  pub calm : T quiet → holds x ≡ None

pub some_none : {p : List ℕ} → Some p ≡ None → ⊥
some_none e = let z : ◌≡◌ {A = ℕ} 0 1 = cc in omega arith

some_inj : {p q : List ℕ} → Some p ≡ Some q → p ≡ q
some_inj e = cc

pub inv_start : (holds : Holding) → ((i : ℕ) → holds i ≡ None) → Inv [] [] [] true 0 holds
inv_start holds n =
    record {
      begins = refl;
      below = omega arith;
      expects = refl;
      holding = λ i b l h. absurd (some_none (sym h ∙ n i));
      done = λ j h. absurd (omega arith);
      sents = λ j h. absurd h;
      kept = λ j h. absurd h;
      calm = λ t. n 0;
    }

-- ---- numbers

module _ (e p x : ℕ) (here : x ≡ e % 65536) (lo : e ≤ p + 32767) (hi : p ≤ e + 32768) where
  at_zero : back (p % 65536) x ≡ 0 → p ≡ e
  at_zero h = omega arith

  at_near : 1 ≤ back (p % 65536) x → back (p % 65536) x ≤ 32768 → e < p
  at_near h k = omega arith

  at_far : 32769 ≤ back (p % 65536) x → p < e
  at_far h = omega arith

-- in the window, a position is known by its index
known_by : (e j x : ℕ) → x ≡ e % 65536 → e ≤ j → j ≤ e + 32768 → j % 65536 ≡ x → j ≡ e
known_by e j x a b c d = omega arith

more : {k j : ℕ} → k ≤ j → (j ≡ k → ⊥) → suc k ≤ j
more {k} {j} h ne = ⊎_elim (λ (l : k < j). l) (λ (l : j ≤ k). absurd (ne (omega arith))) (lt_or_le k j)

pub length_snoc : (l : List (List ℕ)) (b : List ℕ) → length (l ++ (b ∷ [])) ≡ suc (length l)
length_snoc l b = length-append l (b ∷ []) ∙ add-one (length l)

grow : (sent l : List (List ℕ)) (b : List ℕ) → l ≡ take (length l) sent → length l < length sent → b ≡ get_or sent (length l) []
    → l ++ (b ∷ []) ≡ take (length (l ++ (b ∷ []))) sent
grow sent l b e h q = rw length_snoc (cc (take-suc sent (length l) [] h))

-- ---- the events

module _ (sent handed : List (List ℕ)) (accepted : List ℕ) (quiet : Bool) (x : ℕ) (holds : Holding) (v : Inv sent handed accepted quiet x holds) where
  abbrev E : ℕ
  E = length handed

  -- an item is sent
  pub inv_send : (b : List ℕ) → Inv (sent ++ (b ∷ [])) handed accepted quiet x holds
  inv_send b =
      record {
        begins = rw (take-append-le (length handed) sent (b ∷ []) v.below) v.begins;
        below = let h = v.below in rw length_snoc (omega arith);
        expects = v.expects;
        holding = λ i c l h.
            let a = v.holding i c l h in
            record {
              q = a.q;
              low = a.low;
              high = a.high;
              was = let w = a.was in rw length_snoc (omega arith);
              index = a.index;
              bytes = a.bytes ∙ sym (get_or-append sent (b ∷ []) [] a.q a.was);
              known = a.known;
            };
        done = v.done;
        sents = λ j h. let w = v.sents j h in rw length_snoc (omega arith);
        kept = v.kept;
        calm = v.calm;
      }

  -- what is seen of the stream is as it was
  pub inv_same : (x' : ℕ) (holds' : Holding) → x' ≡ x → ((y : ℕ) → y < 65536 → holds' y ≡ holds y) → (quiet' : Bool) → (T quiet' → T quiet)
      → Inv sent handed accepted quiet' x' holds'
  inv_same x' holds' same keeps quiet' less =
      record {
        begins = v.begins;
        below = v.below;
        expects = same ∙ v.expects;
        holding = λ i b l h. v.holding i b l (sym (keeps i l) ∙ h);
        done = v.done;
        sents = v.sents;
        kept = λ j h. as_before j (v.kept j h);
        calm = λ t. rw same (keeps x (let q = v.expects in omega arith) ∙ v.calm (less t));
      }
    where
      as_before : (j : ℕ) → Where E holds j → Where E holds' j
      as_before j (inl h) = inl h
      as_before j (inr h) = inr (h.0, h.1, (h.2.0, keeps (j % 65536) (omega arith) ∙ h.2.1))

  -- a take has found none
  pub inv_none : (x' : ℕ) (holds' : Holding) → x' ≡ x → ((y : ℕ) → y < 65536 → holds' y ≡ holds y) → holds x ≡ None → Inv sent handed accepted true x' holds'
  inv_none x' holds' same keeps nothing =
      let u = inv_same x' holds' same keeps false (λ t. absurd t) in
      record {
        begins = u.begins;
        below = u.below;
        expects = u.expects;
        holding = u.holding;
        done = u.done;
        sents = u.sents;
        kept = u.kept;
        calm = λ t. rw same (keeps x (let q = v.expects in omega arith) ∙ nothing);
      }

  abbrev noting : (p : ℕ) (i : ℕ) (b : List ℕ) → At sent E accepted i b → At sent E (p ∷ accepted) i b
  noting p i b a = record { q = a.q; low = a.low; high = a.high; was = a.was; index = a.index; bytes = a.bytes; known = inr a.known }

  -- what moves on with the count: the item at e is out
  at_next : (accepted' : List ℕ) (i : ℕ) (b c : List ℕ) → (i ≡ x → ⊥) → At sent E accepted' i c → At sent (length (handed ++ (b ∷ []))) accepted' i c
  at_next accepted' i b c ne a =
      record {
        q = a.q;
        low = rw length_snoc (more a.low (λ r. ne (a.index ∙ ap (λ (y : ℕ). y % 65536) r ∙ sym v.expects)));
        high = let h = a.high in rw length_snoc (omega arith);
        was = a.was;
        index = a.index;
        bytes = a.bytes;
        known = a.known;
      }

  next_is : (b : List ℕ) → next x ≡ length (handed ++ (b ∷ [])) % 65536
  next_is b = let q = v.expects in rw length_snoc (omega arith)

  below_next : (j : ℕ) (b : List ℕ) → j < length (handed ++ (b ∷ [])) → (j < E) ⊎ (j ≡ E)
  below_next j b h =
      let g : j < suc E = rw length_snoc at h in
      ⊎_elim (λ (l : j < E). inl l) (λ (l : E ≤ j). inr (omega arith)) (lt_or_le j E)

  -- where an item is, once the one at e is out
  moved : (b : List ℕ) (holds' : Holding) → ((y : ℕ) → y < 65536 → (y ≡ x → ⊥) → holds' y ≡ holds y) → (j : ℕ) → Where E holds j → Where (length (handed ++ (b ∷ []))) holds' j
  moved b holds' keeps j (inl h) = inl (rw length_snoc (omega arith))
  moved b holds' keeps j (inr h) =
      ⊎_elim (λ (e : j ≡ E). inl (rw length_snoc (omega arith)))
      (λ (ne : j ≡ E → ⊥).
      inr (
        rw length_snoc (more h.0 ne),
        (let g = h.1 in rw length_snoc (omega arith)),
        (h.2.0, keeps (j % 65536) (omega arith) (λ r. ne (known_by E j x v.expects h.0 h.1 r)) ∙ h.2.1),
      ))
      (same? j E)

  -- a take has handed out what was held
  pub inv_item : (b : List ℕ) (x' : ℕ) (holds' : Holding) → holds x ≡ Some b → x' ≡ next x → holds' x ≡ None
      → ((y : ℕ) → y < 65536 → (y ≡ x → ⊥) → holds' y ≡ holds y) → Inv sent (handed ++ (b ∷ [])) accepted false x' holds'
  inv_item b x' holds' found step_is gone keeps =
      record {
        begins = grow sent handed b v.begins less (a.bytes ∙ ap (λ (j : ℕ). get_or sent j []) here);
        below = rw length_snoc less;
        expects = step_is ∙ next_is b;
        holding = λ i c l h.
            ⊎_elim (λ (e : i ≡ x). absurd (some_none (sym h ∙ ap holds' e ∙ gone)))
            (λ (ne : i ≡ x → ⊥). at_next accepted i b c ne (v.holding i c l (sym (keeps i l ne) ∙ h)))
            (same? i x);
        done = λ j h. done_at j (below_next j b h);
        sents = v.sents;
        kept = λ j h. moved b holds' keeps j (v.kept j h);
        calm = λ t. absurd t;
      }
    where
      a : At sent E accepted x b
      a = v.holding x b (let q = v.expects in omega arith) found

      here : a.q ≡ E
      here = known_by E a.q x v.expects a.low a.high (sym a.index)

      less : E < length sent
      less = let w = a.was in omega (arith, here)

      done_at : (j : ℕ) → (j < E) ⊎ (j ≡ E) → Has j accepted
      done_at j (inl h) = v.done j h
      done_at j (inr h) = rw (h ∙ sym here) a.known

  -- a copy of the item at p has come while a take had found none
  module _ (p : ℕ) (i : ℕ) (b : List ℕ) (t : T quiet) (was : p < length sent) (index : i ≡ p % 65536) (bytes : b ≡ get_or sent p [])
      (lo : E ≤ p + 32767) (hi : p ≤ E + 32768) where
    sents-more : (j : ℕ) → Has j (p ∷ accepted) → j < length sent
    sents-more j (inl h) = omega (arith, h, was)
    sents-more j (inr h) = v.sents j h

    pub inv_out : (x' : ℕ) (holds' : Holding) → back i x ≡ 0 → x' ≡ next x → ((y : ℕ) → y < 65536 → holds' y ≡ holds y)
        → Inv sent (handed ++ (b ∷ [])) (p ∷ accepted) false x' holds'
    inv_out x' holds' zero-away step_is keeps =
        record {
          begins = grow sent handed b v.begins (omega (arith, here, was)) (bytes ∙ ap (λ (j : ℕ). get_or sent j []) here);
          below = rw length_snoc (omega (arith, here, was));
          expects = step_is ∙ next_is b;
          holding = λ j c l h. at_next (p ∷ accepted) j b c (λ r. some_none (sym h ∙ keeps j l ∙ ap holds r ∙ v.calm t)) (noting p j c (v.holding j c l (sym (keeps j l) ∙ h)));
          done = λ j h. done_at j (below_next j b h);
          sents = sents-more;
          kept = λ j h. kept_at j h;
          calm = λ q. absurd q;
        }
      where
        here : p ≡ E
        here = at_zero E p x v.expects lo hi (rw index at zero-away)

        done_at : (j : ℕ) → (j < E) ⊎ (j ≡ E) → Has j (p ∷ accepted)
        done_at j (inl h) = inr (v.done j h)
        done_at j (inr h) = inl (h ∙ sym here)

        kept_at : (j : ℕ) → Has j (p ∷ accepted) → Where (length (handed ++ (b ∷ []))) holds' j
        kept_at j (inl h) = inl (rw length_snoc (omega (arith, h, here)))
        kept_at j (inr h) = moved b holds' (λ y l ne. keeps y l) j (v.kept j h)

    pub inv-held : (x' : ℕ) (holds' : Holding) → 1 ≤ back i x → back i x ≤ 32768 → x' ≡ x → holds' i ≡ Some b
        → ((y : ℕ) → y < 65536 → (y ≡ i → ⊥) → holds' y ≡ holds y) → Inv sent handed (p ∷ accepted) false x' holds'
    inv-held x' holds' one near same put keeps =
        record {
          begins = v.begins;
          below = v.below;
          expects = same ∙ v.expects;
          holding = λ j c l h.
              ⊎_elim (λ (e : j ≡ i). new j c e h) (λ (ne : j ≡ i → ⊥). noting p j c (v.holding j c l (sym (keeps j l ne) ∙ h))) (same? j i);
          done = λ j h. inr (v.done j h);
          sents = sents-more;
          kept = λ j h. kept_at j h;
          calm = λ q. absurd q;
        }
      where
        ahead : E < p
        ahead = at_near E p x v.expects lo hi (rw index at one) (rw index at near)

        new : (j : ℕ) (c : List ℕ) → j ≡ i → holds' j ≡ Some c → At sent E (p ∷ accepted) j c
        new j c e h =
            record {
              q = p;
              low = omega (arith, ahead);
              high = hi;
              was = was;
              index = e ∙ index;
              bytes = some_inj (sym h ∙ ap holds' e ∙ put) ∙ bytes;
              known = inl refl;
            }

        there : (j : ℕ) → Where E holds j → Where E holds' j
        there j (inl h) = inl h
        there j (inr h) =
            ⊎_elim (λ (e : j % 65536 ≡ i). inr (h.0, h.1, (b, ap holds' e ∙ put)))
            (λ (ne : j % 65536 ≡ i → ⊥). inr (h.0, h.1, (h.2.0, keeps (j % 65536) (omega arith) ne ∙ h.2.1)))
            (same? (j % 65536) i)

        kept_at : (j : ℕ) → Has j (p ∷ accepted) → Where E holds' j
        kept_at j (inl h) = inr (omega (arith, h, ahead), omega (arith, h, hi), (b, ap (λ (y : ℕ). holds' (y % 65536)) h ∙ ap holds' (sym index) ∙ put))
        kept_at j (inr h) = there j (v.kept j h)

    pub inv-old : (x' : ℕ) (holds' : Holding) → 32769 ≤ back i x → x' ≡ x → ((y : ℕ) → y < 65536 → holds' y ≡ holds y)
        → Inv sent handed (p ∷ accepted) false x' holds'
    inv-old x' holds' far same keeps =
        let u = inv_same x' holds' same keeps false (λ q. absurd q) in
        record {
          begins = u.begins;
          below = u.below;
          expects = u.expects;
          holding = λ j c l h. noting p j c (u.holding j c l h);
          done = λ j h. inr (u.done j h);
          sents = sents-more;
          kept = λ j h. kept_at j h;
          calm = λ q. absurd q;
        }
      where
        before : p < E
        before = at_far E p x v.expects lo hi (rw index at far)

        kept_at : (j : ℕ) → Has j (p ∷ accepted) → Where E holds' j
        kept_at j (inl h) = inl (omega (arith, h, before))
        kept_at j (inr h) = (inv_same x' holds' same keeps false (λ q. absurd q)).kept j h
