-- What a step may pick is decided: the rule of release/acquire, stale values, and witnesses.
use mathlib.Core.Path.{◌≡◌, refl, sym, ap, ◌∙◌, subst}
use mathlib.Core.Bool.{Bool, true, false, Bool-discrete}
use mathlib.Core.List.{List, [], ◌∷◌, ◌++◌, Memᴰ as Member}
use mathlib.Core.Option.{Option, none, some}
use mathlib.Core.Logic.{◌⊎◌, inl, inr}
use Prim.Native.Nat.{ℕ}
use native.Mathlib.Omega.{arith}
use native.Mathlib.Decide.{ℕ_discrete}
use Rattle.relations.specs.Closure.{Reaches}
use Rattle.relations.proofs.Decide.{dec_map, dec_and, dec_not, dec_none, dec_some, SplitAt, dec_split, dec_implies}
use Rattle.relations.proofs.Decide.{dec_empty}
use Rattle.lists.proofs.Ends.{Snoc, empty_or_snoc, same_last, split_not_nil}
use Rattle.program.specs.Program.{Program}
use Rattle.program.specs.Thread.{Action, kind_of, Effect, NextLine, ended, local, writing}
use Rattle.program.specs.declared.Kind.{Kind}
use Rattle.program.specs.declared.Kind.TheVariants.{Read, Write, Update}
use Rattle.program.specs.Thread.{access, next_line}
use Rattle.model.specs.Graph.{Id, Graph, order, thread_events, value_of}
use Rattle.model.specs.Order.{HappensBefore, ScOrder}
use Rattle.model.specs.Run.{State, thread_of, starts_with_update, Allowed}
use Rattle.model.specs.Witness.{Witness}
use Rattle.model.specs.Readable.{Readable}
use Rattle.model.proofs.Decidable.{dec_happens_reaches, dec_sc_order}

dec_unseen : (g : Graph) (es l : List Id) → Dec ((v : Id) → Member v l → Reaches (HappensBefore g) es v → ⊥)
dec_unseen g es l = dec_none (dec_happens_reaches g es) l

pub dec_allowed : (p : Program) (g : Graph) (t : ℕ) (a : Action) (l : List Id) → Dec (Allowed p g t a l)
dec_allowed p g t a l =
    dec_map (λ h. record { unseen = h.0; unfollowed = h.1 }) (λ h. (h.unseen, h.unfollowed))
    (dec_and (dec_unseen g (thread_events g t) l)
    (dec_implies (Bool-discrete (writing a) true) (Bool-discrete (starts_with_update g l) false)))

module _ (g : Graph) (es : List Id) (leave : Bool) (y u : ℕ) where
  abbrev Pick : Id → List Id → Type 0
  Pick w l =
      (l ≡ [] → ⊥)
      × (((v : Id) → Member v l → Reaches (HappensBefore g) es v → ⊥)
      × ((leave ≡ true → starts_with_update g l ≡ false) × (value_of g w ≡ u)))

  dec_pick : (w : Id) (l : List Id) → Dec (Pick w l)
  dec_pick w l =
      dec_and (dec_not (dec_empty l))
      (dec_and (dec_unseen g es l)
      (dec_and (dec_implies (Bool-discrete leave true) (Bool-discrete (starts_with_update g l) false))
      (ℕ_discrete (value_of g w) u)))

  pub dec_readable : Dec (Readable g es leave y u)
  dec_readable = dec_map into out (dec_split Pick dec_pick (order g y))
    where
      into : SplitAt Pick (order g y) → Readable g es leave y u
      into s =
          record {
            before = s.before;
            write = s.chosen;
            after = s.after;
            split = s.whole;
            older = s.holds.0;
            unseen = s.holds.1.0;
            unfollowed = s.holds.1.1.0;
            value = s.holds.1.1.1;
          }

      out : Readable g es leave y u → SplitAt Pick (order g y)
      out r =
          record {
            before = r.before;
            chosen = r.write;
            after = r.after;
            whole = r.split;
            holds = (r.older, (r.unseen, (r.unfollowed, r.value)));
          }

pub dec_kind : (k l : Kind) → Dec (k ≡ l)
dec_kind Read Read = yes refl
dec_kind Read Write = no (λ q. let z : ◌≡◌ {A = ℕ} 0 1 = cc in omega arith)
dec_kind Read Update = no (λ q. let z : ◌≡◌ {A = ℕ} 0 1 = cc in omega arith)
dec_kind Write Read = no (λ q. let z : ◌≡◌ {A = ℕ} 0 1 = cc in omega arith)
dec_kind Write Write = yes refl
dec_kind Write Update = no (λ q. let z : ◌≡◌ {A = ℕ} 0 1 = cc in omega arith)
dec_kind Update Read = no (λ q. let z : ◌≡◌ {A = ℕ} 0 1 = cc in omega arith)
dec_kind Update Write = no (λ q. let z : ◌≡◌ {A = ℕ} 0 1 = cc in omega arith)
dec_kind Update Update = yes refl

module _ (p : Program) (s : State) (t : ℕ) (kind : Kind) (x u : ℕ) where
  -- The newest write, the last of what stands after the picked one, comes before an event of the thread.
  record Known (after : List Id) : Type 0 where
    between : List Id
    newest : Id
    last : after ≡ between ++ newest ∷ []
    event : Id
    own : Member event (thread_events s.graph t)
    known : ScOrder s.graph newest event

  dec_known : (after : List Id) → Dec (Known after)
  dec_known after = go (empty_or_snoc after)
    where
      go : (after ≡ []) ⊎ Snoc after → Dec (Known after)
      go (inl q) = no (λ k. split_not_nil k.between k.newest [] (sym q ∙ k.last))
      go (inr r) =
          dec_map
          (λ h. record
          { between = r.front; newest = r.final; last = r.whole; event = h.0; own = h.1; known = h.2 })
          (λ k. (
            k.event,
            k.own,
            subst (λ v. ScOrder s.graph v k.event)
                (same_last k.between r.front k.newest r.final (sym k.last ∙ r.whole)).1 k.known,
          ))
          (dec_some {P = λ e. ScOrder s.graph r.final e} (dec_sc_order s.graph r.final)
          (thread_events s.graph t))

  -- What an access with effects f does as a witness of this kind and value, by the write that it picks.
  record Does (f : ℕ → Option Effect) (w : Id) (after : List Id) : Type 0 where
    effect : Effect
    allows : f (value_of s.graph w) ≡ some effect
    allowed : Allowed p s.graph t effect.action after
    known : Known after
    of_kind : kind_of effect.action ≡ kind
    of_value : value_of s.graph w ≡ u

  dec_does : (f : ℕ → Option Effect) (w : Id) (after : List Id) → Dec (Does f w after)
  dec_does f w after = go (f (value_of s.graph w)) refl
    where
      go : (o : Option Effect) → f (value_of s.graph w) ≡ o → Dec (Does f w after)
      go none q = no (λ h. let z : ◌≡◌ {A = ℕ} 0 1 = cc h.allows in omega arith)
      go (some e) q =
          dec_map
          (λ h. record
          { effect = e; allows = q; allowed = h.0; known = h.1.0; of_kind = h.1.1.0; of_value = h.1.1.1 })
          (λ h. let same : h.effect ≡ e = cc h.allows in (
            subst (λ (c : Effect). Allowed p s.graph t c.action after) same h.allowed,
            (h.known, (ap (λ (c : Effect). kind_of c.action) (sym same) ∙ h.of_kind, h.of_value)),
          ))
          (dec_and (dec_allowed p s.graph t e.action after)
          (dec_and (dec_known after)
          (dec_and (dec_kind (kind_of e.action) kind) (ℕ_discrete (value_of s.graph w) u))))

  pub dec_witness : Dec (Witness p s t kind x u)
  dec_witness = go (next_line p t (thread_of s t)) refl
    where
      into : {y : ℕ} {f : ℕ → Option Effect} → next_line p t (thread_of s t) ≡ access y f
          → (y ≡ x) × SplitAt (Does f) (order s.graph y) → Witness p s t kind x u
      into {y} {f} q h =
          let d = h.1.holds in
          record {
            access =
                record {
                  location = y;
                  effects = f;
                  line = q;
                  before = h.1.before;
                  picked = h.1.chosen;
                  after = h.1.after;
                  split = h.1.whole;
                  effect = d.effect;
                  allows = d.allows;
                };
            allowed = d.allowed;
            stale = record { between = d.known.between; newest = d.known.newest; last = d.known.last };
            event = d.known.event;
            own = d.known.own;
            known = d.known.known;
            of_kind = d.of_kind;
            of_location = h.0;
            of_value = d.of_value;
          }

      out : (w : Witness p s t kind x u)
          → (w.access.location ≡ x) × SplitAt (Does w.access.effects) (order s.graph w.access.location)
      out w = (
        w.of_location,
        record {
          before = w.access.before;
          chosen = w.access.picked;
          after = w.access.after;
          whole = w.access.split;
          holds =
              record {
                effect = w.access.effect;
                allows = w.access.allows;
                allowed = w.allowed;
                known =
                    record {
                      between = w.stale.between;
                      newest = w.stale.newest;
                      last = w.stale.last;
                      event = w.event;
                      own = w.own;
                      known = w.known;
                    };
                of_kind = w.of_kind;
                of_value = w.of_value;
              };
        },
      )

      go : (l : NextLine) → next_line p t (thread_of s t) ≡ l → Dec (Witness p s t kind x u)
      go ended q = no (λ w. let z : ◌≡◌ {A = ℕ} 0 1 = cc w.access.line in omega arith)
      go (local r) q = no (λ w. let z : ◌≡◌ {A = ℕ} 0 1 = cc w.access.line in omega arith)
      go (access y f) q =
          dec_map (into q) back (dec_and (ℕ_discrete y x) (dec_split (Does f) (dec_does f) (order s.graph y)))
        where
          back : Witness p s t kind x u → (y ≡ x) × SplitAt (Does f) (order s.graph y)
          back w =
              let qy : w.access.location ≡ y = cc w.access.line in
              let qf : w.access.effects ≡ f = cc w.access.line in
              subst (λ z. (z ≡ x) × SplitAt (Does f) (order s.graph z)) qy
              (subst (λ h. (w.access.location ≡ x) × SplitAt (Does h) (order s.graph w.access.location)) qf
              (out w))
