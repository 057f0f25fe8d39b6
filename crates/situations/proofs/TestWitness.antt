-- Witnesses read off a situation (Theorem 5.3 of source document 001): they are those of the state.
use mathlib.Core.Path.{◌≡◌, refl, sym, ap, ◌∙◌, subst, subst⁻¹, subst₂}
use mathlib.Core.Bool.{Bool, true, false, cond}
use mathlib.Core.List.Memᴰ
use mathlib.Core.List.{List, [], ◌∷◌, ◌++◌, Memᴰ as Member}
use mathlib.Core.Option.{Option, some}
use mathlib.Core.Logic.{◌⊎◌, inl, inr, ⊎_elim, ◌↔◌}
use Prim.Native.Nat.{ℕ, ◌<◌}
use lib.ListN.{length, get_or}
use Rattle.relations.specs.Closure.{IsOrBefore, Reaches, Precedes}
use Rattle.lists.proofs.Ends.{Snoc, empty_or_snoc, regroup_snoc, split_not_nil}
use Rattle.relations.proofs.Precedes.{precedes_after}
use Rattle.sets.specs.Sets.{has}
use Rattle.program.specs.Program.{Program}
use Rattle.program.specs.Thread.{start_thread, kind_of, writing, Effect, access, next_line}
use Rattle.program.specs.declared.Kind.{Kind}
use Rattle.rules.specs.Situation.{Situation}
use Rattle.rules.specs.Update.{row_of}
use Rattle.rules.specs.Test.{may_use}
use Rattle.model.specs.Graph.{Id, start, Graph, order, below, thread_events, value_of}
use Rattle.model.specs.Order.{ScOrder}
use Rattle.model.specs.Run.{State, thread_of, Access}
use Rattle.model.specs.Readable.{newest, starts, Readable}
use Rattle.model.specs.Witness.{Witness}
use Rattle.model.proofs.Decidable.{dec_sc_reaches}
use Rattle.model.proofs.Choices.{dec_readable}
use Rattle.model.proofs.WellFormed.{WellFormed}
use Rattle.model.proofs.Reachable.{Good, has_thread, access_not_ended, access_has_thread, access_has_location}
use Rattle.situations.specs.Situation.{known, readable, situation_of}
use Rattle.situations.proofs.ReadableSink.{Seen}
use Rattle.situations.proofs.ReadableRows.{row}
use Rattle.situations.proofs.ReadableFamilies.{by_thread}
use Rattle.situations.proofs.Decisions.{member_decided}
use Rattle.situations.proofs.Newest.{last_is_newest}
use Rattle.model.proofs.StartsFirst.{nothing_precedes_start, nothing_sc_before_start}
use Rattle.model.proofs.Below.{row_of_below}

-- A witness as a situation shows it: thread t, its kind, its location x and the stale value u.
pub record WitnessOn (p : Program) (q : Situation) (t : ℕ) (kind : Kind) (x u : ℕ) : Type 0 where
  pub effects : ℕ → Option Effect
  pub line : next_line p t (get_or q.threads t start_thread) ≡ access x effects
  pub effect : Effect
  pub allows : effects u ≡ some effect
  pub of_kind : kind_of effect.action ≡ kind
  pub value : u < p.values
  pub known : has (get_or q.known_to_thread t 0) x ≡ true
  pub stale : may_use (some effect) (get_or (row_of q.readable_by_thread t) x 0)
      (get_or (row_of q.writable_by_thread t) x 0) u
      ≡ true

-- What the sets of a situation say of its state.
module _ (p : Program) (s : State) (t x : ℕ) (ht : t < length p.threads) where
  known_says : (has (get_or (situation_of p s).known_to_thread t 0) x ≡ true)
      ↔ ((x < p.locations)
      × Reaches (ScOrder s.graph) (thread_events s.graph t ++ starts s.graph) (newest s.graph x))
  unfolding situation_of known
  known_says =
      subst⁻¹ Says
      (row_of_below (λ t. known p.locations s.graph (thread_events s.graph t ++ starts s.graph)) 0
      (length p.threads) t ht)
      (member_decided p.locations
      (λ y. dec_sc_reaches s.graph (thread_events s.graph t ++ starts s.graph) (newest s.graph y)) x)
    where
      Says : ℕ → Type 0
      Says n =
          (has n x ≡ true)
          ↔ ((x < p.locations)
          × Reaches (ScOrder s.graph) (thread_events s.graph t ++ starts s.graph) (newest s.graph x))

  module _ (hx : x < p.locations) (u : ℕ) where
    set_says : (leave : Bool)
        → (has (get_or (row_of (by_thread p.values p.locations (length p.threads) s.graph leave) t) x 0) u
        ≡ true)
        ↔ ((u < p.values) × Readable s.graph (thread_events s.graph t) leave x u)
    unfolding readable
    set_says leave =
        subst⁻¹ Says
        (ap (λ r. get_or r x 0)
        (row_of_below (λ t. row p.values p.locations s.graph leave (thread_events s.graph t)) []
        (length p.threads) t ht)
        ∙ row_of_below (readable p.values s.graph leave (thread_events s.graph t)) 0 p.locations x hx)
        (member_decided p.values (dec_readable s.graph (thread_events s.graph t) leave x) u)
      where
        Says : ℕ → Type 0
        Says n = (has n u ≡ true) ↔ ((u < p.values) × Readable s.graph (thread_events s.graph t) leave x u)

    stale_says : (e : Effect)
        → (may_use (some e) (get_or (row_of (situation_of p s).readable_by_thread t) x 0)
        (get_or (row_of (situation_of p s).writable_by_thread t) x 0) u ≡ true)
        ↔ ((u < p.values) × Readable s.graph (thread_events s.graph t) (writing e.action) x u)
    unfolding situation_of may_use
    stale_says e = go (writing e.action)
      where
        go : (b : Bool)
            → (cond b (has (get_or (row_of (situation_of p s).writable_by_thread t) x 0) u)
            (has (get_or (row_of (situation_of p s).readable_by_thread t) x 0) u) ≡ true)
            ↔ ((u < p.values) × Readable s.graph (thread_events s.graph t) b x u)
        go true = set_says true
        go false = set_says false

-- Where a stale write can be picked, the newest write is none of the thread's events and no starting write: it is known
-- to the thread exactly when it comes before one of its events.
module _ {g : Graph} (f : WellFormed g) (t x : ℕ) (before : List Id) (w : Id) (after between : List Id) (v : Id)
    (split : order g x ≡ before ++ w ∷ after) (last : after ≡ between ++ v ∷ []) where
  pub stale_newest : newest g x ≡ v
  stale_newest =
      last_is_newest g x (before ++ w ∷ between) v
      (split ∙ ap (λ l. before ++ w ∷ l) last ∙ regroup_snoc before w between v)

  newest_after : Member v after
  newest_after = subst⁻¹ (Member v) last (Memᴰ.append_right between (Member.head refl))

  not_start : (z : ℕ) → v ≡ start z → ⊥
  not_start z q =
      nothing_precedes_start f x z
      (subst (λ b. Precedes w b (order g x)) q (subst⁻¹ (Precedes w v) split (precedes_after before w newest_after)))

  pub known_comes_before : ((b : Id) → Member b after → Seen g (thread_events g t) b → ⊥)
      → Reaches (ScOrder g) (thread_events g t ++ starts g) v → (e : Id) × Member e (thread_events g t) × ScOrder g v e
  unfolding starts
  known_comes_before unseen r =
      ⊎_elim (λ m. own r.target m r.way)
      (λ m.
      let z = Memᴰ.of_map start (below (length g.orders)) m in
      absurd (started z.0 (subst⁻¹ (IsOrBefore (ScOrder g) v) z.2 r.way)))
      (Memᴰ.append_cases (thread_events g t) r.listed)
    where
      own : (e : Id) → Member e (thread_events g t) → IsOrBefore (ScOrder g) v e
          → (e : Id) × Member e (thread_events g t) × ScOrder g v e
      own e m (inl q) = absurd (unseen v newest_after (record { target = e; listed = m; way = inl q }))
      own e m (inr k) = (e, m, k)

      started : (z : ℕ) → IsOrBefore (ScOrder g) v (start z) → ⊥
      started z (inl q) = not_start z q
      started z (inr k) = nothing_sc_before_start f z k

module _ {p : Program} {s : State} (f : Good p s) {t : ℕ} {kind : Kind} {x u : ℕ} where
  pub witness_shows : ((i : Id) → value_of s.graph i < p.values) → Witness p s t kind x u
      → WitnessOn p (situation_of p s) t kind x u
  unfolding situation_of
  witness_shows bound w =
      subst₂ (WitnessOn p (situation_of p s) t kind) w.of_location w.of_value
      (record {
        effects = a.effects;
        line = a.line;
        effect = a.effect;
        allows = a.allows;
        of_kind = w.of_kind;
        value = bound a.picked;
        known = (known_says p s t a.location ht).1 (hx, reached);
        stale = (stale_says p s t a.location ht hx _ a.effect).1 (bound a.picked, readable);
      })
    where
      a : Access p s t
      a = w.access

      ht : t < length p.threads
      ht = access_has_thread a

      hx : a.location < p.locations
      hx = access_has_location f a

      reached : Reaches (ScOrder s.graph) (thread_events s.graph t ++ starts s.graph)
          (newest s.graph a.location)
      reached =
          record {
            target = w.event;
            listed = Memᴰ.append_left (starts s.graph) w.own;
            way =
                inr
                (subst⁻¹ (λ v. ScOrder s.graph v w.event)
                (stale_newest f.well_formed t a.location a.before a.picked a.after w.stale.between
                w.stale.newest a.split w.stale.last) w.known);
          }

      readable : Readable s.graph (thread_events s.graph t) (writing a.effect.action) a.location
          (value_of s.graph a.picked)
      readable =
          record {
            before = a.before;
            write = a.picked;
            after = a.after;
            split = a.split;
            older = λ q. split_not_nil w.stale.between w.stale.newest [] (sym q ∙ w.stale.last);
            unseen = w.allowed.unseen;
            unfollowed = w.allowed.unfollowed;
            value = refl;
          }

  pub shown_is_witness : WitnessOn p (situation_of p s) t kind x u → Witness p s t kind x u
  unfolding situation_of
  shown_is_witness w = go (empty_or_snoc r.after)
    where
      ht : t < length p.threads
      ht = has_thread p t (thread_of s t) (access_not_ended w.line)

      says : (x < p.locations)
          × Reaches (ScOrder s.graph) (thread_events s.graph t ++ starts s.graph) (newest s.graph x)
      says = (known_says p s t x ht).0 w.known

      r : Readable s.graph (thread_events s.graph t) (writing w.effect.action) x u
      r = ((stale_says p s t x ht says.0 u w.effect).0 w.stale).1

      go : (r.after ≡ []) ⊎ Snoc r.after → Witness p s t kind x u
      go (inl q) = absurd (r.older q)
      go (inr n) =
          let v = stale_newest f.well_formed t x r.before r.write r.after n.front n.final r.split
          n.whole in
          let e = known_comes_before f.well_formed t x r.before r.write r.after n.front n.final
          r.split n.whole r.unseen
          (subst (Reaches (ScOrder s.graph) (thread_events s.graph t ++ starts s.graph)) v says.1) in
          record {
            access =
                record {
                  location = x;
                  effects = w.effects;
                  line = w.line;
                  before = r.before;
                  picked = r.write;
                  after = r.after;
                  split = r.split;
                  effect = w.effect;
                  allows = ap w.effects r.value ∙ w.allows;
                };
            allowed = record { unseen = r.unseen; unfollowed = r.unfollowed };
            stale = record { between = n.front; newest = n.final; last = n.whole };
            event = e.0;
            own = e.1;
            known = e.2;
            of_kind = w.of_kind;
            of_location = refl;
            of_value = r.value;
          }
