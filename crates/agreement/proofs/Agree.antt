-- Two ends agree, from what their calls promise. Assumes nothing.
use Prim.Native.Nat.{ℕ, zero, suc, ◌+◌, ◌-◌, ◌≤◌, ◌<◌, ◌%◌}
use mathlib.Core.Path.{◌≡◌, refl, sym, ap, ◌∙◌, subst}
use mathlib.Core.Logic.{◌⊎◌, inl, inr, ⊎_elim}
use mathlib.Core.Bool.{Bool, true, false, cond}
use mathlib.Core.List.{List, [], ◌∷◌, ◌++◌}
use native.Mathlib.Omega.{arith}
use native.Mathlib.Decide.{ℕ_discrete}
use borrow.Author.Tests.{eqb-true, eqb-false, eq-eqb, ne_eqb}
use lib.Dec.{T, eqb}
use lib.ListN.{length, get_or, take, replicate, get_or-append}
use lib.Seq.{get_or-append_seam}
use Rattle.std.specs.Prelude.{Result, Ok, Err, Option, Some, None}
use Rattle.laws.proofs.Cases.{case, lt_or_le}
use Rattle.serial.specs.Order.{back, next}
use Rattle.flight.specs.View.{Sent as Entry}
use Rattle.acknowledgment_laws.specs.Runs.{Typed}
use Rattle.packet_table.specs.Numbers.{Bytes}
use Rattle.packet_table.specs.declared.DeliveryGuarantee.{DeliveryGuarantee}
use Rattle.packet_table.specs.declared.DeliveryGuarantee.TheVariants.{Unreliable, Reliable}
use Rattle.packet_table.specs.declared.OrderingGuarantee.{OrderingGuarantee}
use Rattle.ends.specs.State.{State}
use Rattle.receiving_plan.specs.Plan.{number_of_answer}
use Rattle.receiving.specs.Receive.{Step as Received}
use Rattle.sending.specs.Send.{Step as Sent}
use Rattle.link_incoming.specs.Calls.{receive_of, take_of}
use Rattle.link_outgoing.specs.Calls.{send_of, resend_of, fragment_of, fragment_output}
use Rattle.link.specs.Calls.{drop_of, drop_output}
use Rattle.link_laws.specs.Calls.{dropped}
use Rattle.link_laws.specs.Never.{New}
use Rattle.agreement.specs.World.{Pair, Copy, Mark, Back, World, start, latest, no_back, no_copy}
use Rattle.agreement.specs.Events.{Event, sends, resends, drops, writes, hears, collects, arrives, takes, others, on_stream, written, marked, counted, fragmented, given_back, at_sender, at_receiver, arriving, step, run}
use Rattle.agreement.specs.Agreement.{Lent, Window, Waited, May, Mays, Has, Least, Refusals, Agreed}
use Rattle.agreement.proofs.Core.{Where, Inv, length_snoc, inv_start, inv_send, inv_same, inv_none, inv_item, inv_out, inv-held, inv-old, some_none}
use Rattle.agreement.proofs.Promises.{Views, Mine, Other, Stored, Went, Passed, Loose, Quiet, Same, Landed, goes-out, is_held, is-old, is-refused, Took, took-item, took-none, Promises}
use Rattle.terms.specs.declared.Refusal.{Refusal}
use Rattle.flight.specs.declared.lost.Dropped.{Dropped}
use Rattle.sending.specs.declared.Written.{Written}

-- ---- lists

abbrev Every : {A : Type 0} → (A → Type 0) → List A → Type 0
Every P [] = Unit {0}
Every P (x ∷ xs) = P x × Every P xs

every_map : {A : Type 0} (P Q : A → Type 0) → ((x : A) → P x → Q x) → (h : List A) → Every P h → Every Q h
every_map P Q f [] a = tt
every_map P Q f (x ∷ xs) a = (f x a.0, every_map P Q f xs a.1)

every_at : {A : Type 0} (P : A → Type 0) (l : List A) (j : ℕ) (d : A) → j < length l → Every P l → P (get_or l j d)
every_at P [] j d h a = absurd (omega arith)
every_at P (x ∷ xs) zero d h a = a.0
every_at P (x ∷ xs) (suc j) d h a = every_at P xs j d (omega arith) a.1

-- ---- the least position that is not accepted

has? : (p : ℕ) (l : List ℕ) → Dec (Has p l)
has? p [] = no (λ h. h)
has? p (q ∷ l) = go (ℕ_discrete p q) (has? p l)
  where
    go : Dec (p ≡ q) → Dec (Has p l) → Dec (Has p (q ∷ l))
    go (yes e) r = yes (inl e)
    go (no n) (yes h) = yes (inr h)
    go (no n) (no f) = no g
      where
        g : Has p (q ∷ l) → ⊥
        g (inl e) = n e
        g (inr h) = f h

lt_suc : (j e : ℕ) → j < suc e → (j < e) ⊎ (j ≡ e)
lt_suc j e h = ⊎_elim (λ (l : j < e). inl l) (λ (l : e ≤ j). inr (omega arith)) (lt_or_le j e)

-- looked for from m up to n
least_from : (l : List ℕ) (n : ℕ) → (Has n l → ⊥) → (fuel m : ℕ) → m + fuel ≡ n → ((j : ℕ) → j < m → Has j l) → (k : ℕ) × Least k l × (m ≤ k) × (k ≤ n)
least_from l n no-n zero m e b = (m, record { before = b; here = λ h. no-n (rw (← m-is) h) }, omega arith, omega arith)
  where
    m-is : m ≡ n
    m-is = omega arith
least_from l n no-n (suc fuel) m e b = go (λ b'. least_from l n no-n fuel (suc m) (omega arith) b') (has? m l)
  where
    also : Has m l → (j : ℕ) → (j < m) ⊎ (j ≡ m) → Has j l
    also h j (inl q) = b j q
    also h j (inr q) = rw q h

    go : (((j : ℕ) → j < suc m → Has j l) → (k : ℕ) × Least k l × (suc m ≤ k) × (k ≤ n)) → Dec (Has m l) → (k : ℕ) × Least k l × (m ≤ k) × (k ≤ n)
    go below (yes h) =
        let r : (k : ℕ) × Least k l × (suc m ≤ k) × (k ≤ n) = below (λ j q. also h j (lt_suc j m q)) in
        (r.0, r.1, omega (arith, r.2), r.3)
    go below (no f) = (m, record { before = b; here = f }, omega arith, omega arith)

-- ---- the two ends

-- index i and payload b are those of the item at position p
record Of (f : ℕ) (sent : List (List ℕ)) (p i : ℕ) (b : List ℕ) : Type 0 where
  was : p < length sent
  index : i ≡ p % 65536
  bytes : b ≡ get_or sent p []
  fits : length b ≤ f

more : (f : ℕ) (sent : List (List ℕ)) (c : List ℕ) (p i : ℕ) (b : List ℕ) → Of f sent p i b → Of f (sent ++ (c ∷ [])) p i b
more f sent c p i b o =
    record {
      was = let w = o.was in rw length_snoc (omega arith);
      index = o.index;
      bytes = o.bytes ∙ sym (get_or-append sent (c ∷ []) [] p o.was);
      fits = o.fits;
    }

module _ (l : Pair) (v : Views) (q : Promises l v) where
  abbrev F : ℕ
  F = l.sending.fragment_size

  -- a packet in flight or given back is of the item at a position, or of nothing on the stream
  abbrev Owned : List (List ℕ) → Option ℕ → Entry → Type 0
  Owned sent (Some p) e = (Typed e.packet × Bytes e.payload) × ((i : ℕ) × (Mine l.stream i e.packet × Of F sent p i e.payload))
  Owned sent None e = (Typed e.packet × Bytes e.payload) × Other l.stream e.packet

  abbrev Carries : List (List ℕ) → Option ℕ → List ℕ → Type 0
  Carries sent (Some p) d = Bytes d × ((i : ℕ) × ((b : List ℕ) × (v.Says d i b × Of F sent p i b)))
  Carries sent None d = Bytes d × v.Aside d

  record Good (w : World) : Type 0 where
    ok_sender : v.ok_sender w.sender
    ok_receiver : v.ok_receiver w.receiver
    counts : v.upcoming w.sender ≡ length w.sent % 65536
    flying : (m : ℕ) (e : Entry) → m < 65536 → v.flight w.sender m ≡ Some e → Owned w.sent (latest m w.marks) e
    came : Every (λ (r : Back). Owned w.sent r.item (record { packet = r.sent; payload = r.payload })) w.back
    carried : Every (λ (c : Copy). Carries w.sent c.item c.datagram) w.line
    inv : Inv w.sent w.handed w.accepted w.quiet (v.expected w.receiver) (v.holds w.receiver)

  good_start : (s r : State) (a b : List ℕ) → New l.sending s a → New l.receiving r b → Good (start s r)
  good_start s r a b ns nr =
      let fs = q.first-sender s a ns in
      let fr = q.first-receiver r b nr in
      record {
        ok_sender = fs.0;
        ok_receiver = fr.0;
        counts = fs.1;
        flying = λ m e h g. absurd (no-entry (sym g ∙ fs.2 m h));
        came = tt;
        carried = tt;
        inv = rw fr.1 (inv_start (v.holds r) fr.2);
      }
    where
      no-entry : {e : Entry} → Some e ≡ None → ⊥
      no-entry e = let z : ◌≡◌ {A = ℕ} 0 1 = cc in omega arith

  -- one more item is sent: what belongs to an item still does
  owned_more : (sent : List (List ℕ)) (c : List ℕ) (o : Option ℕ) (e : Entry) → Owned sent o e → Owned (sent ++ (c ∷ [])) o e
  owned_more sent c None e h = h
  owned_more sent c (Some p) e h = (h.0, (h.1.0, (h.1.1.0, more F sent c p h.1.0 e.payload h.1.1.1)))

  carries_more : (sent : List (List ℕ)) (c : List ℕ) (o : Option ℕ) (d : List ℕ) → Carries sent o d → Carries (sent ++ (c ∷ [])) o d
  carries_more sent c None d h = h
  carries_more sent c (Some p) d h = (h.0, (h.1.0, (h.1.1.0, (h.1.1.1.0, more F sent c p h.1.0 h.1.1.0 h.1.1.1.1))))

  owned_bytes : (sent : List (List ℕ)) (o : Option ℕ) (e : Entry) → Owned sent o e → Bytes e.payload
  owned_bytes sent None e h = h.0.1
  owned_bytes sent (Some p) e h = h.0.1

  entry_inj : {a b : Entry} → Some a ≡ Some b → a ≡ b
  entry_inj e = cc

  -- a packet has taken a number
  flying_more : (sent : List (List ℕ)) (marks : List Mark) (s s' : State) (n : ℕ) (item : Option ℕ) (e : Entry)
      → ((m : ℕ) (x : Entry) → m < 65536 → v.flight s m ≡ Some x → Owned sent (latest m marks) x)
      → Stored l v s s' n e → Owned sent item e
      → (m : ℕ) (x : Entry) → m < 65536 → v.flight s' m ≡ Some x → Owned sent (latest m (record { number = n; item = item } ∷ marks)) x
  unfolding latest
  flying_more sent marks s s' n item e old stored own m x h g =
      case (eqb m n)
      (λ (y : eqb m n ≡ true).
      let same : e ≡ x = entry_inj (sym (rw y at (stored m h)) ∙ g) in
      rw (eq-eqb n m (sym (eqb-true m n y))) (subst (λ (z : Entry). Owned sent item z) same own))
      (λ (y : eqb m n ≡ false).
      rw (ne_eqb n m (λ r. eqb-false m n y (sym r))) (old m x h (sym (rw y at (stored m h)) ∙ g)))

  module _ (w : World) (g : Good w) where
    -- ---- the sender

    -- an item of the stream goes out
    module _ (s' : State) (n : ℕ) (d : List ℕ) where
      out-mine : (payload : List ℕ) → Bytes payload → Went l v w.sender s' n d (next (v.upcoming w.sender)) (v.upcoming w.sender) payload
          → Good (at_sender w s' (w.sent ++ (payload ∷ [])) (record { number = n; item = Some (length w.sent) } ∷ w.marks) w.back
          (record { item = Some (length w.sent); datagram = d } ∷ w.line))
      out-mine payload pb t =
          record {
            ok_sender = t.ok;
            ok_receiver = g.ok_receiver;
            counts = t.count ∙ up;
            flying =
                flying_more (w.sent ++ (payload ∷ [])) w.marks w.sender s' n (Some (length w.sent)) (record { packet = t.sent; payload = payload })
                (λ m x h f. owned_more w.sent payload (latest m w.marks) x (g.flying m x h f)) t.stored
                ((t.typed, pb), (v.upcoming w.sender, (t.mine, of)));
            came = every_map _ _ (λ r h. owned_more w.sent payload r.item (record { packet = r.sent; payload = r.payload }) h) w.back g.came;
            carried = ((t.bytes, (v.upcoming w.sender, (payload, (t.says, of)))), every_map _ _ (λ c h. carries_more w.sent payload c.item c.datagram h) w.line g.carried);
            inv = inv_send w.sent w.handed w.accepted w.quiet _ _ g.inv payload;
          }
        where
          up : next (v.upcoming w.sender) ≡ length (w.sent ++ (payload ∷ [])) % 65536
          up = let c = g.counts in rw length_snoc (omega arith)

          of : Of F (w.sent ++ (payload ∷ [])) (length w.sent) (v.upcoming w.sender) payload
          of =
              record {
                was = rw length_snoc (omega arith);
                index = g.counts;
                bytes = sym (get_or-append_seam w.sent payload [] []);
                fits = t.fits;
              }

      -- an item of the stream goes out again
      out-again : (p i : ℕ) (payload : List ℕ) → Bytes payload → Went l v w.sender s' n d (v.upcoming w.sender) i payload → Of F w.sent p i payload
          → Good (at_sender w s' w.sent (record { number = n; item = Some p } ∷ w.marks) w.back (record { item = Some p; datagram = d } ∷ w.line))
      out-again p i payload pb t of =
          record {
            ok_sender = t.ok;
            ok_receiver = g.ok_receiver;
            counts = t.count ∙ g.counts;
            flying =
                flying_more w.sent w.marks w.sender s' n (Some p) (record { packet = t.sent; payload = payload }) g.flying t.stored
                ((t.typed, pb), (i, (t.mine, of)));
            came = g.came;
            carried = ((t.bytes, (i, (payload, (t.says, of)))), g.carried);
            inv = g.inv;
          }

      -- something else does
      out-other : (payload : List ℕ) → Bytes payload → Passed l v w.sender s' n d payload
          → Good (at_sender w s' w.sent (record { number = n; item = None } ∷ w.marks) w.back (record { item = None; datagram = d } ∷ w.line))
      out-other payload pb t =
          record {
            ok_sender = t.ok;
            ok_receiver = g.ok_receiver;
            counts = t.count ∙ g.counts;
            flying =
                flying_more w.sent w.marks w.sender s' n None (record { packet = t.sent; payload = payload }) g.flying t.stored
                ((t.typed, pb), t.other);
            came = g.came;
            carried = ((t.bytes, t.aside), g.carried);
            inv = g.inv;
          }

    out-loose : (s' : State) (d : List ℕ) → Loose l v w.sender s' d
        → Good (at_sender w s' w.sent w.marks w.back (record { item = None; datagram = d } ∷ w.line))
    out-loose s' d t =
        record {
          ok_sender = t.ok;
          ok_receiver = g.ok_receiver;
          counts = t.count ∙ g.counts;
          flying = λ m e h f. g.flying m e h (sym (t.flying m h) ∙ f);
          came = g.came;
          carried = ((t.bytes, t.aside), g.carried);
          inv = g.inv;
        }

    unchanged : (s' : State) → s' ≡ w.sender → Good (at_sender w s' w.sent w.marks w.back w.line)
    unchanged s' e =
        rw e
        (record {
          ok_sender = g.ok_sender;
          ok_receiver = g.ok_receiver;
          counts = g.counts;
          flying = g.flying;
          came = g.came;
          carried = g.carried;
          inv = g.inv;
        })

    -- a call that sends nothing
    still : (s' : State) → Quiet l v w.sender s' → (back : List Back)
        → Every (λ (r : Back). Owned w.sent r.item (record { packet = r.sent; payload = r.payload })) back
        → Good (at_sender w s' w.sent w.marks back w.line)
    still s' t back came =
        record {
          ok_sender = t.ok;
          ok_receiver = g.ok_receiver;
          counts = t.count ∙ g.counts;
          flying = λ m e h f. g.flying m e h (t.keeps m e h f);
          came = came;
          carried = g.carried;
          inv = g.inv;
        }

    module _ (delivery : DeliveryGuarantee) (ordering : OrderingGuarantee) (stream : ℕ) (payload output : List ℕ) (lent : Lent l.sending output) (byte : stream < 256) (pb : Bytes payload) where
      abbrev X : Sent
      X = send_of l.sending w.sender delivery ordering stream payload output

      good-send : (b : Bool) → on_stream l.stream ordering stream ≡ b → (a : Result Written Refusal) → X.answer ≡ a
          → Good (at_sender w X.end (counted a b payload w.sent) (marked a delivery (cond b (Some (length w.sent)) None) w.marks) w.back (written a X.output (cond b (Some (length w.sent)) None) w.line))
      good-send true b (Err why) e = unchanged X.end (q.send-refused w.sender delivery ordering stream payload output why e)
      good-send false b (Err why) e = unchanged X.end (q.send-refused w.sender delivery ordering stream payload output why e)
      good-send true b (Ok d) e =
          let t = q.send-mine w.sender delivery ordering stream payload output d g.ok_sender lent byte pb b e in
          reliable delivery t.0 t.1
        where
          reliable : (y : DeliveryGuarantee) → y ≡ Reliable
              → Went l v w.sender X.end d.number.0 (take d.length X.output) (next (v.upcoming w.sender)) (v.upcoming w.sender) payload
              → Good (at_sender w X.end (w.sent ++ (payload ∷ [])) (marked (Ok d) y (Some (length w.sent)) w.marks) w.back (record { item = Some (length w.sent); datagram = take d.length X.output } ∷ w.line))
          reliable Reliable r t = out-mine X.end d.number.0 (take d.length X.output) payload pb t
          reliable Unreliable r t = absurd (let z : ◌≡◌ {A = ℕ} 0 1 = cc in omega arith)
      good-send false b (Ok d) e = by delivery refl
        where
          by : (y : DeliveryGuarantee) → delivery ≡ y
              → Good (at_sender w X.end w.sent (marked (Ok d) y None w.marks) w.back (record { item = None; datagram = take d.length X.output } ∷ w.line))
          by Reliable r =
              let f : (send_of l.sending w.sender Reliable ordering stream payload output).answer ≡ Ok d = rw r at e in
              rw r (out-other _ d.number.0 _ payload pb (q.send-other w.sender ordering stream payload output d g.ok_sender lent byte pb b f))
          by Unreliable r =
              let f : (send_of l.sending w.sender Unreliable ordering stream payload output).answer ≡ Ok d = rw r at e in
              rw r (out-loose _ _ (q.send-loose w.sender ordering stream payload output d g.ok_sender lent byte pb b f))

    module _ (r : Back) (output : List ℕ) (lent : Lent l.sending output) where
      abbrev Y : Sent
      Y = resend_of l.sending w.sender r.sent r.payload output

      good-resend : (o : Option ℕ) → Owned w.sent o (record { packet = r.sent; payload = r.payload }) → (a : Result Written Refusal) → Y.answer ≡ a
          → Good (at_sender w Y.end (counted a false [] w.sent) (marked a Reliable o w.marks) w.back (written a Y.output o w.line))
      good-resend o own (Err why) e = unchanged Y.end (q.resend-refused w.sender r.sent r.payload output why e)
      good-resend (Some p) own (Ok d) e =
          out-again Y.end d.number.0 (take d.length Y.output) p own.1.0 r.payload own.0.1
          (q.resend-mine w.sender r.sent own.1.0 r.payload output d g.ok_sender lent own.0.0 own.0.1 own.1.1.0 e) own.1.1.1
      good-resend None own (Ok d) e =
          out-other Y.end d.number.0 (take d.length Y.output) r.payload own.0.1
          (q.resend-other w.sender r.sent r.payload output d g.ok_sender lent own.0.0 own.0.1 own.1 e)

    good_drop : (output : List ℕ) → Lent l.sending output → (a : Result (Option Dropped) Refusal) → drop_of l.sending w.sender output ≡ a
        → Good (at_sender w (dropped l.sending w.sender output) w.sent w.marks (given_back a (drop_output l.sending w.sender output) w.marks w.back) w.line)
    good_drop output lent (Ok None) e = still _ (q.drops w.sender output g.ok_sender) w.back g.came
    good_drop output lent (Err why) e = still _ (q.drops w.sender output g.ok_sender) w.back g.came
    good_drop output lent (Ok (Some d)) e =
        let t = q.dropped-was w.sender output d g.ok_sender lent e in
        still _ (q.drops w.sender output g.ok_sender) _ (g.flying d.number.0 _ t.0 t.1, g.came)

    good-write : (n j : ℕ) (output : List ℕ) → Lent l.sending output → n < 65536 → (a : Result (Option ℕ) Refusal) → fragment_of l.sending w.sender n j output ≡ a
        → Good (at_sender w w.sender w.sent w.marks w.back (fragmented a (fragment_output l.sending w.sender n j output) w.line))
    good-write n j output lent small (Ok None) e = unchanged w.sender refl
    good-write n j output lent small (Err why) e = unchanged w.sender refl
    good-write n j output lent small (Ok (Some count)) e =
        let t = q.wrote w.sender n j count output g.ok_sender lent (λ x f. owned_bytes w.sent (latest n w.marks) x (g.flying n x small f)) e in
        out-loose w.sender _ (record { ok = g.ok_sender; aside = t.0; bytes = t.1; count = refl; flying = λ m h. refl })

    -- ---- the receiver

    at-receiver : (r' : State) (handed : List (List ℕ)) (accepted : List ℕ) (quiet : Bool) → v.ok_receiver r'
        → Inv w.sent handed accepted quiet (v.expected r') (v.holds r') → Good (at_receiver w r' handed accepted quiet)
    at-receiver r' handed accepted quiet ok inv =
        record {
          ok_sender = g.ok_sender;
          ok_receiver = ok;
          counts = g.counts;
          flying = g.flying;
          came = g.came;
          carried = g.carried;
          inv = inv;
        }

    same-stream : (r' : State) → v.ok_receiver r' → Same l v w.receiver r' → (quiet : Bool) → (T quiet → T w.quiet)
        → Good (at_receiver w r' w.handed w.accepted quiet)
    same-stream r' ok s quiet less =
        at-receiver r' w.handed w.accepted quiet ok
        (inv_same w.sent w.handed w.accepted w.quiet _ _ g.inv (v.expected r') (v.holds r') s.expects s.keeps quiet less)

    module _ (p i : ℕ) (b : List ℕ) (of : Of F w.sent p i b) (t : T w.quiet) (lo : length w.handed ≤ p + 32767) (hi : p ≤ length w.handed + 32768)
        (x : Received) (ok : v.ok_receiver x.end) where
      landed : Landed l v w.receiver i b x → Good (arriving w (Some p) x)
      landed (goes-out a is said zero-away moves keeps) =
          rw is
          (subst (λ (c : List ℕ). Good (at_receiver w x.end (w.handed ++ (c ∷ [])) (p ∷ w.accepted) false)) (sym said)
          (at-receiver x.end _ _ false ok
          (inv_out w.sent w.handed w.accepted w.quiet _ _ g.inv p i b t of.was of.index of.bytes lo hi _ _ zero-away moves keeps)))
      landed (is_held is one near same put keeps) =
          rw is
          (at-receiver x.end _ _ false ok
          (inv-held w.sent w.handed w.accepted w.quiet _ _ g.inv p i b t of.was of.index of.bytes lo hi _ _ one near same put keeps))
      landed (is-old is far s) =
          rw is
          (at-receiver x.end _ _ false ok
          (inv-old w.sent w.handed w.accepted w.quiet _ _ g.inv p i b t of.was of.index of.bytes lo hi _ _ far s.expects s.keeps))
      landed (is-refused why is s) = rw is (same-stream x.end ok s false (λ y. absurd y))

    good-arrive : (d output : List ℕ) → Lent l.receiving output → (o : Option ℕ) → Carries w.sent o d
        → Waited w.quiet o → Window (length w.handed) o → Good (arriving w o (receive_of l.receiving w.receiver d output))
    good-arrive d output lent None c t h =
        same-stream _ (q.received-ok w.receiver d output g.ok_receiver c.0) (q.passes w.receiver d output g.ok_receiver c.1) w.quiet (λ y. y)
    good-arrive d output lent (Some p) c t h =
        let of = c.1.1.1.1 in
        landed p c.1.0 c.1.1.0 of t h.0 h.1 _ (q.received-ok w.receiver d output g.ok_receiver c.0)
        (q.lands w.receiver d output c.1.0 c.1.1.0 g.ok_receiver lent c.1.1.1.0 (let y = of.index in omega arith) of.fits)

    good-take : (output : List ℕ) → Took l v w.receiver (take_of l.receiving w.receiver l.stream output) → Good (step l w (takes output))
    good-take output (took-item n is found moves gone keeps fewer) =
        rw is
        (at-receiver _ _ _ false (q.take-ok w.receiver output g.ok_receiver)
        (inv_item w.sent w.handed w.accepted w.quiet _ _ g.inv _ _ _ found moves gone keeps))
    good-take output (took-none is nothing s) =
        rw is
        (at-receiver _ _ _ true (q.take-ok w.receiver output g.ok_receiver)
        (inv_none w.sent w.handed w.accepted w.quiet _ _ g.inv _ _ s.expects s.keeps nothing))

    -- ---- what it comes to

    expected-word : v.expected w.receiver < 65536
    expected-word = let y = g.inv.expects in omega arith

    past_all : Has (length w.sent) w.accepted → ⊥
    past_all h = let y = g.inv.sents (length w.sent) h in omega arith

    quiet_none : T w.quiet → Has (length w.handed) w.accepted → ⊥
    quiet_none t h = go (g.inv.kept (length w.handed) h)
      where
        go : Where (length w.handed) (v.holds w.receiver) (length w.handed) → ⊥
        go (inl y) = omega arith
        go (inr y) = some_none (sym y.2.1 ∙ ap (v.holds w.receiver) (sym g.inv.expects) ∙ g.inv.calm t)

    quiet_is : T w.quiet → (k : ℕ) → Least k w.accepted → length w.handed ≤ k → length w.handed ≡ k
    quiet_is t k y h = go (ℕ_discrete (length w.handed) k)
      where
        go : Dec (length w.handed ≡ k) → length w.handed ≡ k
        go (yes e) = e
        go (no n) = absurd (quiet_none t (y.before (length w.handed) (omega arith)))

    good-refusals : (j p : ℕ) (output : List ℕ) → (o : Option ℕ) → o ≡ Some p → Carries w.sent o (get_or w.line j no_copy).datagram → Lent l.receiving output
        → Refusals l w p (number_of_answer (receive_of l.receiving w.receiver (get_or w.line j no_copy).datagram output).answer)
    good-refusals j p output None e c lent = absurd (let z : ◌≡◌ {A = ℕ} 0 1 = cc in omega arith)
    good-refusals j p output (Some r) e c lent =
        let same : r ≡ p = cc in
        let of = c.1.1.1.1 in
        q.refuses w (get_or w.line j no_copy).datagram output p c.1.1.0 g.ok_receiver lent
        (subst (λ (i : ℕ). v.Says (get_or w.line j no_copy).datagram i c.1.1.0) (of.index ∙ ap (λ (y : ℕ). y % 65536) same) c.1.1.1.0) of.fits

  good_step : (w : World) → Good w → (e : Event) → May l w e → Good (step l w e)
  good_step w g (sends delivery ordering stream payload output) m =
      good-send w g delivery ordering stream payload output m.0 m.1 m.2 (on_stream l.stream ordering stream) refl _ refl
  good_step w g (resends j output) m =
      good-resend w g (get_or w.back j no_back) output m.0 (get_or w.back j no_back).item
      (every_at (λ (r : Back). Owned w.sent r.item (record { packet = r.sent; payload = r.payload })) w.back j no_back m.1 g.came) _ refl
  good_step w g (drops output) m = good_drop w g output m _ refl
  good_step w g (writes n j output) m = good-write w g n j output m.0 m.1 _ refl
  good_step w g (hears datagram output) m = still w g _ (q.hears w.sender datagram output g.ok_sender m.1) w.back g.came
  good_step w g (collects stream output) m = still w g _ (q.collects w.sender stream output g.ok_sender) w.back g.came
  good_step w g (arrives j output) m =
      good-arrive w g (get_or w.line j no_copy).datagram output m.0 (get_or w.line j no_copy).item
      (every_at (λ (c : Copy). Carries w.sent c.item c.datagram) w.line j no_copy m.1 g.carried) m.2 m.3
  good_step w g (takes output) m = good-take w g output (q.takes w.receiver output g.ok_receiver m (expected-word w g))
  good_step w g (others call) m = same-stream w g _ (q.beside_ok w.receiver call g.ok_receiver m) (q.beside w.receiver call g.ok_receiver m) w.quiet (λ y. y)

  good_run : (w : World) → Good w → (es : List Event) → Mays l w es → Good (run l w es)
  good_run w g [] m = g
  good_run w g (e ∷ es) m = good_run (step l w e) (good_step w g e m.0) es m.1

  -- takes until none end
  module _ (output : List ℕ) (lent : Lent l.receiving output) where
    record Settled (w : World) (m : ℕ) : Type 0 where
      count : ℕ
      within : count ≤ m
      found_none : T (run l w (replicate count (takes output))).quiet

    settles : (m : ℕ) (w : World) → Good w → v.many w.receiver ≤ m → Settled w (suc m)
    settles zero w g h = go (q.takes w.receiver output g.ok_receiver lent (expected-word w g))
      where
        go : Took l v w.receiver (take_of l.receiving w.receiver l.stream output) → Settled w 1
        go (took-none is nothing s) = record { count = 1; within = omega arith; found_none = rw is tt }
        go (took-item n is found moves gone keeps fewer) = absurd (omega arith)
    settles (suc m) w g h = go (λ w' g' h'. settles m w' g' h') (q.takes w.receiver output g.ok_receiver lent (expected-word w g))
      where
        go : ((w' : World) → Good w' → v.many w'.receiver ≤ m → Settled w' (suc m))
            → Took l v w.receiver (take_of l.receiving w.receiver l.stream output) → Settled w (suc (suc m))
        go later (took-none is nothing s) = record { count = 1; within = omega arith; found_none = rw is tt }
        go later (took-item n is found moves gone keeps fewer) =
            let r = later (step l w (takes output)) (good-take w g output (took-item n is found moves gone keeps fewer)) (rw is (omega arith)) in
            record { count = suc r.count; within = let y = r.within in omega arith; found_none = r.found_none }

  agreed : (w : World) → Good w → Agreed l w
  agreed w g =
      let n : ℕ = length w.sent in
      let r : (k : ℕ) × Least k w.accepted × (length w.handed ≤ k) × (k ≤ length w.sent) =
      least_from w.accepted (length w.sent) (past_all w g) (length w.sent - length w.handed) (length w.handed)
      (let y = g.inv.below in omega arith) g.inv.done in
      record {
        k = r.0;
        least = r.1;
        enough = r.3;
        short = r.2;
        beginning = g.inv.begins;
        whole = λ t. g.inv.begins ∙ ap (λ (y : ℕ). take y w.sent) (quiet_is w g t r.0 r.1 r.2);
        refusals = λ j p output lent within e.
            good-refusals w g j p output (get_or w.line j no_copy).item e
            (every_at (λ (c : Copy). Carries w.sent c.item c.datagram) w.line j no_copy within g.carried) lent;
        ends = λ output lent.
            let y = settles output lent 64 w g (q.few w.receiver g.ok_receiver) in
            record { count = y.count; few = y.within; found_none = y.found_none };
      }

  pub agree : (s r : State) (a b : List ℕ) → New l.sending s a → New l.receiving r b → (es : List Event) → Mays l (start s r) es
      → Agreed l (run l (start s r) es)
  agree s r a b ns nr es m = agreed (run l (start s r) es) (good_run (start s r) (good_start s r a b ns nr) es m)
