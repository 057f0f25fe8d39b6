-- The times around a write in its order: earlier ones, later ones, free ones between, and no room before a
-- read-modify-write.
use mathlib.Core.Path.{◌≡◌, refl, sym, ap, ◌∙◌, subst, subst⁻¹}
use mathlib.Core.Bool.{false}
use mathlib.Core.List.Memᴰ
use mathlib.Core.List.{List, [], ◌∷◌, ◌++◌, Memᴰ as Member}
use mathlib.Core.Option.{Option, none, some}
use mathlib.Core.Logic.{◌⊎◌, ⊎_elim}
use Prim.Native.Nat.{ℕ, suc, ◌≤◌, ◌<◌}
use native.Mathlib.Omega.{arith}
use lib.Seq.{append_snoc}
use Rattle.relations.specs.Closure.{Precedes}
use Rattle.relations.proofs.Precedes.{precedes_after, precedes_put_in}
use Rattle.model.specs.Graph.{Id, Event, read_e, write_e, update_e, Graph, order, event_at}
use Rattle.model.specs.Graph.{is_update, location_of, source_of}
use Rattle.model.specs.Run.{starts_with_update}
use Rattle.model.proofs.WellFormed.{WellFormed, writes_to}
use Rattle.machine.specs.Memory.{Message, message, MemoryState, Free}
use Rattle.machine.proofs.Mirrors.{Mirrors}
use Rattle.machine.proofs.Splits.{Split}

-- The times of the writes before and after a split of an order.
module _ {m : MemoryState} {g : Graph} {sent : Id → Message} (f : Mirrors m g sent) (x : ℕ) {w : Id}
    (s : Split w (order g x)) where
  pub earlier_times : (a : Id) → Member a (s.before ++ w ∷ []) → (sent a).time ≤ (sent w).time
  earlier_times a h =
      ⊎_elim (λ k. let r = f.fits.rising x (precedes k) in omega arith)
      (λ k. omega (arith, ap (λ b. (sent b).time) (Memᴰ.eq_of_singleton k)))
      (Memᴰ.append_cases s.before h)
    where
      precedes : Member a s.before → Precedes a w (order g x)
      precedes k = subst⁻¹ (Precedes a w) s.whole (precedes_put_in s.before w s.after k)

  pub later_times : (b : Id) → Member b s.after → (sent w).time < (sent b).time
  later_times b h = f.fits.rising x (subst⁻¹ (Precedes w b) s.whole (precedes_after s.before w h))

  pub after_listed : (b : Id) → Member b s.after → Member b (order g x)
  after_listed b h = subst⁻¹ (Member b) s.whole (Memᴰ.append_right s.before (Member.tail h))

  pub before_or_after : (a : Id) → Member a (order g x) → Member a (s.before ++ w ∷ []) ⊎ Member a s.after
  before_or_after a h =
      Memᴰ.append_cases (s.before ++ w ∷ [])
      (subst (Member a) (s.whole ∙ sym (append_snoc s.before w s.after)) h)

  module _ (t : ℕ) (below : (sent w).time < t) (above : (b : Id) → Member b s.after → t < (sent b).time) where
    -- A time between them is free.
    pub between_is_free : Free m x t
    between_is_free value T h =
        let r = f.written (message x value t T) h in
        let its_time : t ≡ (sent r.id).time = ap (λ (n : Message). n.time) r.is in
        ⊎_elim (λ k. omega (arith, earlier_times r.id k, its_time, below))
        (λ k. omega (arith, above r.id k, its_time))
        (before_or_after r.id r.listed)

    -- There is no such time before a read-modify-write: it has the next time after the write that it reads.
    module _ (wf : WellFormed g) where
      no_room : (v : Id) (rest : List Id) → s.after ≡ v ∷ rest → {y u value : ℕ} {w' : Id}
          → event_at g v ≡ some (update_e y u value w') → ⊥
      unfolding location_of source_of writes_to
      no_room v rest e {y} {u} {value} {w'} h =
          ⊎_elim (λ k. omega (arith, earlier_times w' k, below, above v v_after, next))
          (λ k. ⊎_elim (λ q. omega (arith, next, ap (λ b. (sent b).time) q))
          (λ r. omega (arith, next, f.fits.rising x (precedes r)))
          (Memᴰ.cases_cons (subst (Member w') e k)))
          (before_or_after w' source_listed)
        where
          next : (sent v).time ≡ suc (sent w').time
          next = f.fits.updated v h

          v_after : Member v s.after
          v_after = subst⁻¹ (Member v) e (Member.head refl)

          same_location : y ≡ x
          same_location = let l = wf.listed_writes x v (after_listed v v_after) in cc (l.there, l.to, h)

          source_listed : Member w' (order g x)
          source_listed =
              subst (λ z. Member w' (order g z)) same_location
              (wf.sources_listed v w' (update_e y u value w') h refl)

          precedes : Member w' rest → Precedes v w' (order g x)
          precedes r =
              subst⁻¹ (Precedes v w')
              (s.whole ∙ ap (λ l. s.before ++ w ∷ l) e ∙ sym (append_snoc s.before w (v ∷ rest)))
              (precedes_after (s.before ++ w ∷ []) v r)

      pub no_update_next : starts_with_update g s.after ≡ false
      unfolding starts_with_update is_update
      no_update_next = go s.after refl
        where
          by_event : (v : Id) (rest : List Id) → s.after ≡ v ∷ rest → (o : Option Event) → event_at g v ≡ o
              → is_update o ≡ false
          by_event v rest e none h = refl
          by_event v rest e (some (read_e y u w')) h = refl
          by_event v rest e (some (write_e y u)) h = refl
          by_event v rest e (some (update_e y u value w')) h = absurd (no_room v rest e h)

          go : (l : List Id) → s.after ≡ l → starts_with_update g l ≡ false
          go [] e = refl
          go (v ∷ rest) e = by_event v rest e (event_at g v) refl
