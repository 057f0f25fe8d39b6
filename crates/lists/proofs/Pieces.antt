-- Lists made piece by piece, a list for each element: their members, and what they are of lists put together or mapped.
use mathlib.Core.Path.{◌≡◌, refl, sym, ap, ◌∙◌, subst}
use mathlib.Core.List.{List, [], ◌∷◌, ◌++◌, map, flat_map, flatten, append-nil, append_assoc, map-append}
use mathlib.Core.List.Memᴰ
use mathlib.Core.List.{Memᴰ as Member}
use mathlib.Core.Logic.{⊎_elim}

module _ {A B : Type 0} (f : A → List B) where
  pub member_of_piece : {a : A} {b : B} (l : List A) → Member a l → Member b (f a) → Member b (flat_map f l)
  unfolding flat_map
  member_of_piece [] m k = absurd (Memᴰ.not-nil m)
  member_of_piece {b = b} (c ∷ l) m k =
      ⊎_elim (λ q. Memᴰ.append_left (flat_map f l) (subst (λ x. Member b (f x)) q k))
      (λ m'. Memᴰ.append_right (f c) (member_of_piece l m' k))
      (Memᴰ.cases_cons m)

  pub piece_of_member : {b : B} (l : List A) → Member b (flat_map f l) → (a : A) × Member a l × Member b (f a)
  unfolding flat_map
  piece_of_member [] m = absurd (Memᴰ.not-nil m)
  piece_of_member {b} (c ∷ l) m =
      ⊎_elim (λ k. (c, Member.head refl, k))
      (λ k. let r = piece_of_member l k in (r.0, Member.tail r.1, r.2))
      (Memᴰ.append_cases (f c) m)

  pub pieces_of_append : (l m : List A) → flat_map f (l ++ m) ≡ flat_map f l ++ flat_map f m
  unfolding flat_map
  pieces_of_append [] m = refl
  pieces_of_append (a ∷ l) m =
      ap (λ r. f a ++ r) (pieces_of_append l m) ∙ sym (append_assoc (f a) (flat_map f l) (flat_map f m))

  pub pieces_of_one : (a : A) → flat_map f (a ∷ []) ≡ f a
  unfolding flat_map
  pieces_of_one a = append-nil (f a)

module _ {A B C : Type 0} where
  pub pieces_of_pieces : (g : B → List C) (f : A → List B) (l : List A)
      → flat_map g (flat_map f l) ≡ flat_map (λ a. flat_map g (f a)) l
  unfolding flat_map
  pieces_of_pieces g f [] = refl
  pieces_of_pieces g f (a ∷ l) =
      pieces_of_append g (f a) (flat_map f l) ∙ ap (λ r. flat_map g (f a) ++ r) (pieces_of_pieces g f l)

  pub pieces_of_map : (g : B → List C) (f : A → B) (l : List A) → flat_map g (map f l) ≡ flat_map (λ a. g (f a)) l
  unfolding flat_map
  pieces_of_map g f [] = refl
  pieces_of_map g f (a ∷ l) = ap (λ r. g (f a) ++ r) (pieces_of_map g f l)

  pub map_of_pieces : (g : B → C) (f : A → List B) (l : List A) → map g (flat_map f l) ≡ flat_map (λ a. map g (f a)) l
  unfolding flat_map
  map_of_pieces g f [] = refl
  map_of_pieces g f (a ∷ l) = map-append g (f a) (flat_map f l) ∙ ap (λ r. map g (f a) ++ r) (map_of_pieces g f l)

-- Where the pieces stand in a list themselves.
pub member_of_flat : {A : Type 0} (ls : List (List A)) {a : A} {l : List A} → Member a l → Member l ls
    → Member a (flatten ls)
unfolding flatten
member_of_flat [] h k = absurd (Memᴰ.not-nil k)
member_of_flat (r ∷ ls) {a} h k =
    ⊎_elim (λ q. Memᴰ.append_left _ (subst (Member a) q h)) (λ p. Memᴰ.append_right r (member_of_flat ls h p))
    (Memᴰ.cases_cons k)
