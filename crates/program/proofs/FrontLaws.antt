-- Bytes and their front: how long it is, and what follows it.
use Prim.Native.Nat.{ℕ, ◌+◌, ◌≤◌}
use mathlib.Core.List.{List, ◌++◌, append_assoc}
use mathlib.Core.Path.{◌≡◌, sym, ap, ◌∙◌}
use native.Mathlib.Omega.{arith}
use lib.ListN.{length, drop, length-append}
use lib.Seq.{drop_at, drop-drop}

pub front_is_whole : (front rest : List ℕ) {bytes : List ℕ} (size : ℕ)
    → bytes ≡ front ++ rest → length front ≡ size → size ≤ length bytes
front_is_whole front rest size e sized = omega (arith, ap length e, length-append front rest)

pub after_front : (front rest : List ℕ) {bytes : List ℕ} (size : ℕ)
    → bytes ≡ front ++ rest → length front ≡ size → rest ≡ drop size bytes
after_front front rest size e sized = sym (ap (drop size) e ∙ drop_at front rest size sized)

pub fronts_join : (front next rest : List ℕ) {bytes mid : List ℕ}
    → bytes ≡ front ++ mid → mid ≡ next ++ rest → bytes ≡ front ++ next ++ rest
fronts_join front next rest e f = e ∙ ap (λ l. front ++ l) f ∙ sym (append_assoc front next rest)

pub drop_past_front : (bytes front rest : List ℕ) (at size : ℕ)
    → drop at bytes ≡ front ++ rest → length front ≡ size → drop (at + size) bytes ≡ rest
drop_past_front bytes front rest at size e sized =
    sym (drop-drop size at bytes) ∙ ap (drop size) e ∙ drop_at front rest size sized
