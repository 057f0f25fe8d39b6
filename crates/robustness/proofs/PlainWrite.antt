-- A plain write ignores the value that it meets.
use mathlib.Core.Path.{◌≡◌, sym, ap, ◌∙◌}
use mathlib.Core.Bool.{Bool, true, false, cond}
use mathlib.Core.Option.{Option, none, some, some-injective}
use Prim.Native.Nat.{ℕ}
use native.Mathlib.Omega.{arith}
use lib.Dec.{eqb}
use lib.ListN.{get_elem?}
use Rattle.program.specs.Program.{Program, Line, lines_of, sum, equal, less, jump, write, read, fadd, cas, wait, bcas}
use Rattle.program.specs.Program.{fence}
use Rattle.program.specs.Thread.{ThreadState, reads, writes, updates, Effect, local, access, onward, load, operand}
use Rattle.program.specs.Thread.{does, does_at, next_line, Action}

same_effects : {x y : ℕ} {f g : ℕ → Option Effect} → access x f ≡ access y g → (u : ℕ) → f u ≡ g u
same_effects {f = f} {g = g} q u = let h : f ≡ g = cc in λ i. h i u

no_access : {q : ThreadState} {x : ℕ} {f : ℕ → Option Effect} → local q ≡ access x f → ⊥
no_access h = let z : ◌≡◌ {A = ℕ} 0 1 = cc in omega arith

-- The action that an effect has.
its_action : {a : Action} {q : ThreadState} {e : Effect} → some (record { action = a; after = q }) ≡ some e
    → a ≡ e.action
its_action {a} {q} {e} h =
    ap (λ (c : Effect). c.action) (some-injective (record { action = a; after = q }) e h)

not_read : {q : ThreadState} {e : Effect} {v : ℕ} → some (record { action = reads; after = q }) ≡ some e
    → e.action ≡ writes v → ⊥
not_read {v = v} h k = let r : reads ≡ writes v = its_action h ∙ k in let z : ◌≡◌ {A = ℕ} 0 1 = cc in omega arith

not_update : {q : ThreadState} {e : Effect} {v w : ℕ} → some (record { action = updates w; after = q }) ≡ some e
    → e.action ≡ writes v → ⊥
not_update {v = v} {w = w} h k =
    let r : updates w ≡ writes v = its_action h ∙ k in let z : ◌≡◌ {A = ℕ} 0 1 = cc in omega arith

line_ignores : (K L : ℕ) (l : Line) (s : ThreadState) {x : ℕ} (f : ℕ → Option Effect) (u u' : ℕ) {e : Effect} {v : ℕ}
    → does K L l s ≡ access x f → f u ≡ some e → e.action ≡ writes v → f u' ≡ some e
unfolding does
line_ignores K L (sum r a b) s f u u' q h k = absurd (no_access q)
line_ignores K L (equal r a b) s f u u' q h k = absurd (no_access q)
line_ignores K L (less r a b) s f u u' q h k = absurd (no_access q)
line_ignores K L (jump t a) s f u u' q h k = absurd (no_access q)
line_ignores K L (write x a) s f u u' q h k = sym (same_effects q u') ∙ same_effects q u ∙ h
line_ignores K L (read r x) s f u u' q h k = absurd (not_read (same_effects q u ∙ h) k)
line_ignores K L (fadd r x a) s f u u' q h k = absurd (not_update (same_effects q u ∙ h) k)
line_ignores K L fence s f u u' q h k = absurd (not_update (same_effects q u ∙ h) k)
line_ignores K L (cas r x a b) s f u u' {e} {v} q h k = absurd (go (eqb u (operand s a)) (same_effects q u ∙ h))
  where
    go : (c : Bool) → some (record { action = cond c (updates (operand s b)) reads; after = load s r u }) ≡ some e → ⊥
    go true z = not_update z k
    go false z = not_read z k
line_ignores K L (wait x a) s f u u' {e} {v} q h k = absurd (go (eqb u (operand s a)) (same_effects q u ∙ h))
  where
    go : (c : Bool) → cond c (some (record { action = reads; after = onward s })) none ≡ some e → ⊥
    go true z = not_read z k
    go false z = let y : ◌≡◌ {A = ℕ} 0 1 = cc in omega arith
line_ignores K L (bcas x a b) s f u u' {e} {v} q h k = absurd (go (eqb u (operand s a)) (same_effects q u ∙ h))
  where
    go : (c : Bool) → cond c (some (record { action = updates (operand s b); after = onward s })) none ≡ some e → ⊥
    go true z = not_update z k
    go false z = let y : ◌≡◌ {A = ℕ} 0 1 = cc in omega arith

pub plain_write_ignores : (p : Program) (t : ℕ) (s : ThreadState) {x : ℕ} (f : ℕ → Option Effect) (u u' : ℕ)
    {e : Effect} {v : ℕ}
    → next_line p t s ≡ access x f → f u ≡ some e → e.action ≡ writes v → f u' ≡ some e
unfolding next_line does_at
plain_write_ignores p t s {x} f u u' {e} {v} = go (get_elem? (lines_of p t) s.line)
  where
    go : (o : Option Line) → does_at p.values p.locations o s ≡ access x f → f u ≡ some e → e.action ≡ writes v
        → f u' ≡ some e
    go none q h k = absurd (let z : ◌≡◌ {A = ℕ} 0 1 = cc in omega arith)
    go (some l) q h k = line_ignores p.values p.locations l s f u u' q h k
