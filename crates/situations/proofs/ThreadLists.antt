-- The threads that schedules are made of are the numbers below T, as the events of a graph are numbered.
use Prim.Native.Nat.{ℕ, zero, suc, ◌+◌}
use native.Mathlib.Nat.{add-zero}
use native.Mathlib.Omega.{arith}
use mathlib.Core.Path.{◌≡◌, refl, sym, ap, ap₂, ◌∙◌}
use mathlib.Core.List.{List, [], ◌∷◌, ◌++◌}
use Rattle.numbering.specs.Schedule.{threads_from, threads}
use Rattle.model.specs.Graph.{below}

one_thread_more : (t n : ℕ) → threads_from t (suc n) ≡ threads_from t n ++ (t + n) ∷ []
unfolding threads_from
one_thread_more t zero = ap (λ k. k ∷ []) (sym (add-zero t))
one_thread_more t (suc n) =
    ap (λ l. t ∷ l) (one_thread_more (suc t) n)
    ∙ ap (λ k. t ∷ threads_from (suc t) n ++ k ∷ []) (let e : suc t + n ≡ t + suc n = omega arith in e)

pub threads_are_below : (T : ℕ) → threads T ≡ below T
unfolding threads_from below
threads_are_below zero = refl
threads_are_below (suc T) =
    one_thread_more 0 T
    ∙ ap₂ (λ l k. l ++ k ∷ []) (threads_are_below T) (let e : 0 + T ≡ T = omega arith in e)
