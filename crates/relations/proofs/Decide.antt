-- Decisions: by parts, over the members and the splits of a list, and of a closure. That one is decided over a list of
-- vertices that has every target of an edge: vertices are allowed between the ends one at a time.
use mathlib.Core.Path.{◌≡◌, refl, sym, ap, subst, subst₂}
use mathlib.Core.List.Memᴰ
use mathlib.Core.List.{List, [], ◌∷◌, ◌++◌, head-eq_of_cons-eq, tail-eq_of_cons-eq, Memᴰ as Member}
use mathlib.Core.List.{cons≢nil}
use mathlib.Core.Logic.{◌⊎◌, inl, inr, ⊎_elim}
use Rattle.lists.proofs.Ends.{split_not_nil}
use Rattle.relations.specs.Closure.{Relation, Closure, edge, further, IsOrBefore, Reaches, Precedes, here, later}
use Rattle.relations.proofs.Laws.{closure_joins}
use Rattle.relations.proofs.Precedes.{precedes_not_nil, precedes_cases}

pub dec_map : {A B : Type 0} → (A → B) → (B → A) → Dec A → Dec B
dec_map f g (yes a) = yes (f a)
dec_map f g (no n) = no (λ b. n (g b))

pub dec_or : {A B : Type 0} → Dec A → Dec B → Dec (A ⊎ B)
dec_or (yes a) d = yes (inl a)
dec_or (no n) (yes b) = yes (inr b)
dec_or (no n) (no m) = no (⊎_elim n m)

pub dec_and : {A B : Type 0} → Dec A → Dec B → Dec (A × B)
dec_and (yes a) (yes b) = yes (a, b)
dec_and (yes a) (no m) = no (λ p. m p.1)
dec_and (no n) d = no (λ p. n p.0)

pub dec_not : {A : Type 0} → Dec A → Dec (A → ⊥)
dec_not (yes a) = no (λ n. n a)
dec_not (no n) = yes n

pub dec_implies : {A B : Type 0} → Dec A → Dec B → Dec (A → B)
dec_implies (yes a) d = dec_map (λ b x. b) (λ f. f a) d
dec_implies (no n) d = yes (λ a. absurd (n a))

pub dec_empty : {A : Type 0} (l : List A) → Dec (l ≡ [])
dec_empty [] = yes refl
dec_empty (a ∷ l) = no cons≢nil

pub dec_member : {A : Type 0} → Discrete A → (a : A) (l : List A) → Dec (Member a l)
dec_member d a [] = no Memᴰ.not-nil
dec_member d a (b ∷ l) =
    dec_map (⊎_elim Member.head Member.tail) Memᴰ.cases_cons (dec_or (d a b) (dec_member d a l))

-- Some member of the list has the property.
pub dec_some : {A : Type 0} {P : A → Type 0} → ((a : A) → Dec (P a)) → (l : List A) → Dec ((a : A) × Member a l × P a)
dec_some d [] = no (λ h. Memᴰ.not-nil h.1)
dec_some {A} {P} d (b ∷ l) = dec_map into out (dec_or (d b) (dec_some d l))
  where
    into : P b ⊎ ((a : A) × Member a l × P a) → (a : A) × Member a (b ∷ l) × P a
    into (inl h) = (b, Member.head (λ i. b), h)
    into (inr h) = (h.0, Member.tail h.1, h.2)

    out : (a : A) × Member a (b ∷ l) × P a → P b ⊎ ((a : A) × Member a l × P a)
    out h = ⊎_elim (λ q. inl (subst P q h.2)) (λ m. inr (h.0, m, h.2)) (Memᴰ.cases_cons h.1)

-- No member of the list has the property.
pub dec_none : {A : Type 0} {P : A → Type 0} → ((a : A) → Dec (P a)) → (l : List A)
    → Dec ((a : A) → Member a l → P a → ⊥)
dec_none d l =
    dec_map (λ n a m h. n (a, m, h)) (λ n h. n h.0 h.1 h.2) (dec_not (dec_some d l))

-- A place of a list at which the element and what stands after it have a property.
pub record SplitAt {A : Type 0} (P : A → List A → Type 0) (l : List A) : Type 0 where
  pub before : List A
  pub chosen : A
  pub after : List A
  pub whole : l ≡ before ++ chosen ∷ after
  pub holds : P chosen after

module _ {A : Type 0} (P : A → List A → Type 0) where
  split_cases : {a : A} {l : List A} → SplitAt P (a ∷ l) → P a l ⊎ SplitAt P l
  split_cases {a} {l} s = go s.before s.chosen s.after s.whole s.holds
    where
      go : (b : List A) (c : A) (m : List A) → a ∷ l ≡ b ++ c ∷ m → P c m → P a l ⊎ SplitAt P l
      go [] c m q h = inl (subst₂ P (sym (head-eq_of_cons-eq q)) (sym (tail-eq_of_cons-eq q)) h)
      go (d ∷ b) c m q h = inr (record { before = b; chosen = c; after = m; whole = tail-eq_of_cons-eq q; holds = h })

  split_of_cases : {a : A} {l : List A} → P a l ⊎ SplitAt P l → SplitAt P (a ∷ l)
  split_of_cases {a} {l} (inl h) = record { before = []; chosen = a; after = l; whole = refl; holds = h }
  split_of_cases {a} {l} (inr s) =
      record {
        before = a ∷ s.before;
        chosen = s.chosen;
        after = s.after;
        whole = ap (λ m. a ∷ m) s.whole;
        holds = s.holds;
      }

  pub dec_split : ((a : A) (l : List A) → Dec (P a l)) → (l : List A) → Dec (SplitAt P l)
  dec_split d [] = no (λ s. split_not_nil s.before s.chosen s.after s.whole)
  dec_split d (a ∷ l) = dec_map split_of_cases split_cases (dec_or (d a l) (dec_split d l))

pub dec_precedes : {A : Type 0} → Discrete A → (a b : A) (l : List A) → Dec (Precedes a b l)
dec_precedes d a b [] = no precedes_not_nil
dec_precedes d a b (c ∷ l) =
    dec_map (⊎_elim (λ h. here h.0 h.1) later) precedes_cases
    (dec_or (dec_and (d a c) (dec_member d b l)) (dec_precedes d a b l))

module _ {A : Type 0} (R : Relation A) where
  -- A way from a to b whose vertices between the ends are listed.
  abbrev Through : List A → Relation A
  Through [] a b = R a b
  Through (v ∷ vs) a b = Through vs a b ⊎ (Through vs a v × Through vs v b)

  dec_through : ((a b : A) → Dec (R a b)) → (vs : List A) (a b : A) → Dec (Through vs a b)
  dec_through d [] a b = d a b
  dec_through d (v ∷ vs) a b = dec_or (dec_through d vs a b) (dec_and (dec_through d vs a v) (dec_through d vs v b))

  through_edge : (vs : List A) (a b : A) → R a b → Through vs a b
  through_edge [] a b r = r
  through_edge (v ∷ vs) a b r = inl (through_edge vs a b r)

  through_closure : (vs : List A) (a b : A) → Through vs a b → Closure R a b
  through_closure [] a b r = edge r
  through_closure (v ∷ vs) a b (inl h) = through_closure vs a b h
  through_closure (v ∷ vs) a b (inr h) = closure_joins (through_closure vs a v h.0) (through_closure vs v b h.1)

  -- A way that goes on at a listed vertex.
  through_further : (vs : List A) (a b c : A) → Through vs a b → Member b vs → R b c → Through vs a c
  through_further [] a b c h m r = absurd (Memᴰ.not-nil m)
  through_further (v ∷ vs) a b c h m r = go h (Memᴰ.cases_cons m) (λ a' h' m'. through_further vs a' b c h' m' r)
    where
      go : Through (v ∷ vs) a b → (b ≡ v) ⊎ Member b vs → ((a' : A) → Through vs a' b → Member b vs → Through vs a' c)
          → Through (v ∷ vs) a c
      go (inl w) (inl q) on = inr (subst (λ x. Through vs a x) q w, through_edge vs v c (subst (λ x. R x c) q r))
      go (inl w) (inr m') on = inl (on a w m')
      go (inr w) (inl q) on = inr (w.0, through_edge vs v c (subst (λ x. R x c) q r))
      go (inr w) (inr m') on = inr (w.0, on v w.1 m')

  closure_through : (vs : List A) → ((a b : A) → R a b → Member b vs)
      → {a b : A} → Closure R a b → Through vs a b × Member b vs
  closure_through vs listed {a} (edge {b = b} r) = (through_edge vs a b r, listed a b r)
  closure_through vs listed {a} (further {b = b} {c = c} p r) =
      let h = closure_through vs listed p in
      (through_further vs a b c h.0 h.1 r, listed b c r)

  pub dec_closure : ((a b : A) → Dec (R a b)) → (vs : List A) → ((a b : A) → R a b → Member b vs) → (a b : A)
      → Dec (Closure R a b)
  dec_closure d vs listed a b =
      dec_map (through_closure vs a b) (λ p. (closure_through vs listed p).0) (dec_through d vs a b)

  pub dec_reaches : Discrete A → ((a b : A) → Dec (R a b)) → (bs : List A) (a : A) → Dec (Reaches R bs a)
  dec_reaches eq d bs a =
      dec_map (λ h. record { target = h.0; listed = h.1; way = h.2 }) (λ h. (h.target, h.listed, h.way))
      (dec_some {P = λ b. IsOrBefore R a b} (λ b. dec_or (eq a b) (d a b)) bs)
