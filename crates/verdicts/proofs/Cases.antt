-- What the verdict on MP, SB, 2+2W, the barrier and SB with fences says about all runs. Their answers, with counts and lent lengths, are
-- in the table of specs/Table.antt.
use Prim.Native.Nat.{ℕ}
use native.Mathlib.Omega.{arith}
use mathlib.Core.Path.{◌≡◌, refl, ap, subst, ◌∙◌}
use mathlib.Core.Option.{Option, none, some}
use mathlib.Core.List.{List, [], ◌∷◌}
use Rattle.program.specs.Program.{constant, write, read, wait, fence, Program, is_fence, any_is, fence_locations, named_locations}
use Rattle.program.specs.declared.Kind.TheVariants.{Read, Write}
use Rattle.program.specs.Outcome.{accepted}
use Rattle.program.specs.Within.{Valid}
use Rattle.program.specs.Spelling.{operand_byte, spell_line, spell_lines, spell_thread, spell_threads, spell}
use Rattle.robustness.specs.Robust.{NotRobust}
use Rattle.machine.specs.Outcomes.{two, sb, mp, two_writes}
use Rattle.rules.specs.Situation.{Situation}
use Rattle.rules.specs.declared.Ending.{Ending}
use Rattle.rules.proofs.Searched.{searched_on}
use Rattle.numbering.specs.Numbering.{Entry}
use Rattle.numbering.specs.Verdict.{Verdict, Outcome, found, full, closed}
use Rattle.verdicts.specs.Search.{verdict_of}
use Rattle.verdicts.specs.Promises.{RobustClaims}
use Rattle.verdicts.proofs.Computed.{read_on, accepted_valid, by_search}
use Rattle.verdicts.proofs.Promises.{closed_keeps_claims, found_is_not_robust}

module _ {p : Program} (valid : Valid p) (N : ℕ) where
  outcome_by_search : {o : Outcome (Entry Situation) Ending} → (searched_on p N).outcome ≡ o → (verdict_of p N).outcome ≡ o
  outcome_by_search e = ap (λ (v : Verdict (Entry Situation) Ending). v.outcome) (by_search valid N) ∙ e

-- A program whose spelling the reader gives back is valid.
spelled_valid : (p : Program) → read_on (spell p) ≡ accepted p → Valid p
unfolding read_on
spelled_valid p e = accepted_valid (spell p) e

-- SB with a fence between the two lines of each thread: the fence's location is the third.
abbrev sb_fenced : Program
sb_fenced =
    record {
      threads = (write 0 (constant 1) ∷ fence ∷ read 0 1 ∷ []) ∷ (write 1 (constant 1) ∷ fence ∷ read 0 0 ∷ []) ∷ [];
      locations = 3;
      values = 2;
    }

abbrev barrier : Program
barrier = two 2 (write 0 (constant 1) ∷ wait 1 (constant 1) ∷ []) (write 1 (constant 1) ∷ wait 0 (constant 1) ∷ [])

-- Reads a spelling back, by computing.
ReadsBack : Program → Program → Type 0
unfolding spell named_locations fence_locations any_is is_fence spell_threads spell_thread spell_lines spell_line operand_byte read_on
ReadsBack p q = read_on (spell p) ≡ accepted q

valid_mp : Valid mp
valid_mp = spelled_valid mp (unfold ReadsBack in refl)

valid_sb : Valid sb
valid_sb = spelled_valid sb (unfold ReadsBack in refl)

valid_two_writes : Valid two_writes
valid_two_writes = spelled_valid two_writes (unfold ReadsBack in refl)

valid_barrier : Valid barrier
valid_barrier = spelled_valid barrier (unfold ReadsBack in refl)

valid_sb_fenced : Valid sb_fenced
valid_sb_fenced = spelled_valid sb_fenced (unfold ReadsBack in refl)

-- MP, the barrier and SB with fences are robust.
pub mp_robust : RobustClaims mp
mp_robust = closed_keeps_claims valid_mp 13 (outcome_by_search valid_mp 13 (unfold searched_on in refl))

pub barrier_robust : RobustClaims barrier
barrier_robust = closed_keeps_claims valid_barrier 7 (outcome_by_search valid_barrier 7 (unfold searched_on in refl))

pub sb_fenced_robust : RobustClaims sb_fenced
sb_fenced_robust =
    closed_keeps_claims valid_sb_fenced 26 (outcome_by_search valid_sb_fenced 26 (unfold searched_on in refl))

-- The schedule and the ending of what was found.
unfoldable found_by : Outcome (Entry Situation) Ending → Option (List ℕ × Ending)
found_by (found x e) = some (x.path, e)
found_by full = none
found_by closed = none

found_by_lem : (o : Outcome (Entry Situation) Ending) {l : List ℕ} {e : Ending} → found_by o ≡ some (l, e)
    → (x : Entry Situation) × (o ≡ found x e) × (x.path ≡ l)
unfolding found_by
found_by_lem (found x d) {l} {e} h =
    let i : ◌≡◌ {A = List ℕ × Ending} (x.path, d) (l, e) = cc in
    (x, ap (λ (r : List ℕ × Ending). found x r.1) i, ap (λ (r : List ℕ × Ending). r.0) i)
found_by_lem full h = absurd (let z : ◌≡◌ {A = ℕ} 0 1 = cc in omega arith)
found_by_lem closed h = absurd (let z : ◌≡◌ {A = ℕ} 0 1 = cc in omega arith)

not_robust_by_search : {p : Program} (valid : Valid p) (N : ℕ) (l : List ℕ) (e : Ending)
    → found_by (searched_on p N).outcome ≡ some (l, e) → NotRobust p l e.thread e.kind e.location e.value
not_robust_by_search {p} valid N l e h =
    let (x, is, path) = found_by_lem (searched_on p N).outcome h in
    subst (λ (s : List ℕ). NotRobust p s e.thread e.kind e.location e.value) path
    (found_is_not_robust valid N x e (outcome_by_search valid N is))

-- SB is not: thread 2, a read of x with the stale value 0, after the steps 1, 1, 2.
pub sb_not_robust : NotRobust sb (0 ∷ 0 ∷ 1 ∷ []) 1 Read 0 0
sb_not_robust =
    not_robust_by_search valid_sb 7 (0 ∷ 0 ∷ 1 ∷ []) (record { thread = 1; kind = Read; location = 0; value = 0 })
    (unfold searched_on found_by in refl)

-- "2+2W .. NR 8 3 2 W 0 0 with steps 1, 1, 2."
pub two_writes_not_robust : NotRobust two_writes (0 ∷ 0 ∷ 1 ∷ []) 1 Write 0 0
two_writes_not_robust =
    not_robust_by_search valid_two_writes 8 (0 ∷ 0 ∷ 1 ∷ [])
    (record { thread = 1; kind = Write; location = 0; value = 0 }) (unfold searched_on found_by in refl)
