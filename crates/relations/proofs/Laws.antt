-- Laws of the transitive closure, and of reaching one of a list.
use mathlib.Core.Path.{subst, subst⁻¹}
use mathlib.Core.List.Memᴰ
use mathlib.Core.List.{List, ◌++◌, Memᴰ as Member}
use mathlib.Core.Logic.{◌⊎◌, inl, inr, ⊎_elim}
use Rattle.relations.specs.Closure.{Relation, Closure, edge, further, IsOrBefore, Reaches}

pub closure_grows : {A : Type 0} {R S : Relation A} → ((a b : A) → R a b → S a b) → {a b : A} → Closure R a b
    → Closure S a b
closure_grows f {a} (edge {b = b} r) = edge (f a b r)
closure_grows f (further {b = b} {c = c} p r) = further (closure_grows f p) (f b c r)

pub closure_joins : {A : Type 0} {R : Relation A} {a b c : A} → Closure R a b → Closure R b c → Closure R a c
closure_joins p (edge r) = further p r
closure_joins p (further q r) = further (closure_joins p q) r

-- A first edge, or the edge alone.
pub first_edge : {A : Type 0} {R : Relation A} {a c : A} → Closure R a c → (b : A) × R a b
first_edge (edge {b = b} r) = (b, r)
first_edge (further p r) = first_edge p

-- A last edge, and what is before it.
pub last_edge : {A : Type 0} {R : Relation A} {a c : A} → Closure R a c → (b : A) × R b c × IsOrBefore (Closure R) a b
last_edge {a = a} (edge r) = (a, r, inl (λ i. a))
last_edge (further {b = b} p r) = (b, r, inr p)

pub before_joins : {A : Type 0} {R : Relation A} {a b c : A} → IsOrBefore (Closure R) a b → Closure R b c
    → Closure R a c
before_joins {R = R} {c = c} (inl e) q = subst⁻¹ (λ x. Closure R x c) e q
before_joins (inr p) q = closure_joins p q

pub is_or_before_joins : {A : Type 0} {R : Relation A} {a b c : A} → IsOrBefore (Closure R) a b
    → IsOrBefore (Closure R) b c → IsOrBefore (Closure R) a c
is_or_before_joins {R = R} {a = a} h (inl q) = subst (IsOrBefore (Closure R) a) q h
is_or_before_joins h (inr w) = inr (before_joins h w)

-- From one relation and list to another, where every way to a member of the one leads to a member of the other.
pub reaches_moves : {A : Type 0} {R S : Relation A} {bs cs : List A} {a : A}
    → ((b : A) → Member b bs → Member b cs × (R a b → S a b)) → Reaches R bs a → Reaches S cs a
reaches_moves f r =
    let h = f r.target r.listed in
    record { target = r.target; listed = h.0; way = ⊎_elim inl (λ w. inr (h.1 w)) r.way }

pub reaches_more : {A : Type 0} {R : Relation A} {bs cs : List A} {a : A} → ((b : A) → Member b bs → Member b cs)
    → Reaches R bs a → Reaches R cs a
reaches_more f = reaches_moves (λ b m. (f b m, λ w. w))

pub reaches_append_cases : {A : Type 0} {R : Relation A} (bs cs : List A) {a : A} → Reaches R (bs ++ cs) a
    → Reaches R bs a ⊎ Reaches R cs a
reaches_append_cases bs cs r =
    ⊎_elim (λ m. inl (record { target = r.target; listed = m; way = r.way }))
    (λ m. inr (record { target = r.target; listed = m; way = r.way })) (Memᴰ.append_cases bs r.listed)
