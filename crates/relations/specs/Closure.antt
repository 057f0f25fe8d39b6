-- Relations on a type, their transitive closure, and the order in which a list has its members.
use Rattle.std.specs.Prelude.{◌≡◌, ◌⊎◌}
use mathlib.Core.List.{List, ◌∷◌, Memᴰ as Member}

-- A relation on A.
abbrev pub Relation : Type 0 → Type 1
Relation A = A → A → Type 0

-- The transitive closure of R: one edge, or a way to b and one edge further.
pub data Closure {A : Type 0} (R : Relation A) (a : A) : A → Type 0 where
  edge : {b : A} → R a b → Closure R a b
  further : {b c : A} → Closure R a b → R b c → Closure R a c

-- a is b or comes before it in R.
abbrev pub IsOrBefore : {A : Type 0} → Relation A → Relation A
IsOrBefore R a b = (a ≡ b) ⊎ R a b

-- a is one of the list, or comes before one of it in R.
pub record Reaches {A : Type 0} (R : Relation A) (bs : List A) (a : A) : Type 0 where
  pub target : A
  pub listed : Member target bs
  pub way : IsOrBefore R a target

-- a stands before b in the list.
pub data Precedes {A : Type 0} (a b : A) : List A → Type 0 where
  here : {c : A} {l : List A} → a ≡ c → Member b l → Precedes a b (c ∷ l)
  later : {c : A} {l : List A} → Precedes a b l → Precedes a b (c ∷ l)
