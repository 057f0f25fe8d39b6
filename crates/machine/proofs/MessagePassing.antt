-- The machine on MP: a thread that finds 1 in the flag y does not find 0 in the data x afterwards. The flag's message
-- carries the view of the data's new message, and the reader joins it.
use mathlib.Core.Path.{◌≡◌, refl, sym, ap, subst, ◌∙◌}
use mathlib.Core.Logic.{◌≢◌, ⊎_elim}
use mathlib.Core.List.Memᴰ
use mathlib.Core.List.{List, [], ◌∷◌, Memᴰ as Member}
use Prim.Native.Nat.{ℕ, zero, suc, ◌<◌}
use native.Mathlib.Omega.{arith}
use lib.ListN.{get_or, set}
use Rattle.program.specs.Thread.{start_thread, load, next_line, does_at, does, operand}
use Rattle.machine.specs.Memory.{View, Message, message, start_messages, start_memory, changed, join, with_message}
use Rattle.machine.specs.Memory.{with_view, view_on_write, view_on_read}
use Rattle.machine.specs.Machine.{State, start_state, thread_of, Step, Run, no_step, and_step}
use Rattle.machine.specs.Outcomes.{mp, standing, NoOldData}
use Rattle.machine.proofs.StartMessages.{start_message_is}
use Rattle.machine.proofs.LineSteps.{WriteStep, ReadStep, step_of_write, step_of_read, no_step_at_the_end}

-- What holds in every state that MP reaches.
record Holds (s : State) : Type 0 where
  -- The lines of the two threads, and what the second has found in y and in x, or 0.
  writer : ℕ
  reader : ℕ
  flag : ℕ
  found : ℕ
  threads : s.threads ≡ standing writer 0 0 ∷ standing reader flag found ∷ []
  -- Once the first thread has written x, its view is past the starting message of x.
  written : 0 < writer → 0 < s.memory.views 0 0
  -- Each message y=1 carries such a view.
  carried : (t : ℕ) (T : View) → Member (message 1 1 t T) s.memory.messages → 0 < T 0
  -- Only the starting message of x has value 0.
  old : (t : ℕ) (T : View) → Member (message 0 0 t T) s.memory.messages → t ≡ 0
  -- A reader that has found y=1 has such a view.
  joined : reader ≡ 1 → flag ≡ 1 → 0 < s.memory.views 1 0
  -- So it has not found x=0 after that.
  new : reader ≡ 2 → flag ≡ 1 → found ≢ 0

holds_at_start : Holds (start_state mp)
unfolding start_state start_memory
holds_at_start =
    record {
      writer = 0;
      reader = 0;
      flag = 0;
      found = 0;
      threads = refl;
      written = omega arith;
      carried = λ t T there. let z = start_value there in omega arith;
      old = λ t T there. ap (λ (m : Message). m.time) (start_message_is 2 there).2;
      joined = omega arith;
      new = omega arith;
    }
  where
    start_value : {m : Message} → Member m (start_messages 2) → m.value ≡ 0
    start_value there = ap (λ (m : Message). m.value) (start_message_is 2 there).2

-- The first thread writes x=1. The new message is neither y=1 nor x=0.
x_written : {s s' : State} → Holds s → WriteStep s 0 0 1 (standing 1 0 0) s' → Holds s'
unfolding with_message view_on_write changed
x_written h w =
    subst Holds (sym w.is)
    (record {
      writer = 1;
      reader = h.reader;
      flag = h.flag;
      found = h.found;
      threads = ap (λ ts. set ts 0 (standing 1 0 0)) h.threads;
      written = λ l. omega (arith, w.above);
      carried =
          λ t T there. ⊎_elim (λ is. absurd (let z : ◌≡◌ {A = ℕ} 1 0 = ap (λ m. m.location) is in omega arith))
          (h.carried t T)
          (Memᴰ.cases_cons there);
      old =
          λ t T there. ⊎_elim (λ is. absurd (let z : ◌≡◌ {A = ℕ} 0 1 = ap (λ m. m.value) is in omega arith))
          (h.old t T)
          (Memᴰ.cases_cons there);
      joined = h.joined;
      new = h.new;
    })

-- The first thread writes y=1. The new message carries its view, which is past the starting message of x.
y_written : {s s' : State} (h : Holds s) → 0 < h.writer → WriteStep s 0 1 1 (standing 2 0 0) s' → Holds s'
unfolding with_message view_on_write changed
y_written h past w =
    subst Holds (sym w.is)
    (record {
      writer = 2;
      reader = h.reader;
      flag = h.flag;
      found = h.found;
      threads = ap (λ ts. set ts 0 (standing 2 0 0)) h.threads;
      written = λ l. h.written past;
      carried =
          λ t T there. ⊎_elim (λ is. subst (λ n. 0 < n) (ap (λ m. m.view 0) (sym is)) (h.written past))
          (h.carried t T)
          (Memᴰ.cases_cons there);
      old =
          λ t T there. ⊎_elim (λ is. absurd (let z : ◌≡◌ {A = ℕ} 0 1 = ap (λ m. m.location) is in omega arith))
          (h.old t T)
          (Memᴰ.cases_cons there);
      joined = h.joined;
      new = h.new;
    })

-- The second thread reads y, and joins the view of what it finds.
y_read : {s s' : State} (h : Holds s) → ReadStep s 1 1 (load (standing 0 h.flag h.found) 0) s' → Holds s'
unfolding with_view view_on_read changed join
y_read {s} h r =
    subst Holds (sym r.is)
    (record {
      writer = h.writer;
      reader = 1;
      flag = r.value;
      found = h.found;
      threads = ap (λ ts. set ts 1 (standing 1 r.value h.found)) h.threads;
      written = h.written;
      carried = h.carried;
      old = h.old;
      joined =
          λ l one. let above : 0 < r.view 0 = h.carried r.time r.view
          (subst (λ u. Member (message 1 u r.time r.view) s.memory.messages) one r.there) in
          omega arith;
      new = λ l. absurd (let z : ◌≡◌ {A = ℕ} 1 2 = l in omega arith);
    })

-- The second thread reads x, no message below its view.
x_read : {s s' : State} (h : Holds s) → h.reader ≡ 1 → ReadStep s 1 0 (load (standing 1 h.flag h.found) 1) s'
    → Holds s'
unfolding with_view view_on_read changed join
x_read {s} h at_1 r =
    subst Holds (sym r.is)
    (record {
      writer = h.writer;
      reader = 2;
      flag = h.flag;
      found = r.value;
      threads = ap (λ ts. set ts 1 (standing 2 h.flag r.value)) h.threads;
      written = h.written;
      carried = h.carried;
      old = h.old;
      joined = λ l. absurd (let z : ◌≡◌ {A = ℕ} 2 1 = l in omega arith);
      new =
          λ l one none. let start : r.time ≡ 0 = h.old r.time r.view
          (subst (λ u. Member (message 0 u r.time r.view) s.memory.messages) none r.there) in
          omega (arith, start, r.above, h.joined at_1 one);
    })

-- The next lines of the two threads, by where they stand.
writer_line : {s : State} (h : Holds s) (n : ℕ) → h.writer ≡ n
    → next_line mp 0 (thread_of s 0) ≡ next_line mp 0 (standing n 0 0)
writer_line h n at =
    ap (λ ts. next_line mp 0 (get_or ts 0 start_thread)) h.threads ∙ ap (λ k. next_line mp 0 (standing k 0 0)) at

reader_line : {s : State} (h : Holds s) (n : ℕ) → h.reader ≡ n
    → next_line mp 1 (thread_of s 1) ≡ next_line mp 1 (standing n h.flag h.found)
reader_line h n at =
    ap (λ ts. next_line mp 1 (get_or ts 1 start_thread)) h.threads
    ∙ ap (λ k. next_line mp 1 (standing k h.flag h.found)) at

writer_steps : {s s' : State} (h : Holds s) (n : ℕ) → h.writer ≡ n → Step mp 0 s s' → Holds s'
unfolding next_line does_at does operand
writer_steps h zero at step = x_written h (step_of_write (writer_line h 0 at) step)
writer_steps h (suc zero) at step = y_written h (omega arith) (step_of_write (writer_line h 1 at) step)
writer_steps h (suc (suc n)) at step = absurd (no_step_at_the_end (writer_line h (suc (suc n)) at) step)

reader_steps : {s s' : State} (h : Holds s) (n : ℕ) → h.reader ≡ n → Step mp 1 s s' → Holds s'
unfolding next_line does_at does operand
reader_steps h zero at step = y_read h (step_of_read (reader_line h 0 at) step)
reader_steps h (suc zero) at step = x_read h at (step_of_read (reader_line h 1 at) step)
reader_steps h (suc (suc n)) at step = absurd (no_step_at_the_end (reader_line h (suc (suc n)) at) step)

-- There is no third thread.
holds_after_step : {t : ℕ} {s s' : State} → Holds s → Step mp t s s' → Holds s'
unfolding next_line does_at
holds_after_step {t = zero} h step = writer_steps h h.writer refl step
holds_after_step {t = suc zero} h step = reader_steps h h.reader refl step
holds_after_step {t = suc (suc t)} h step = absurd (no_step_at_the_end refl step)

holds_in_runs : {schedule : List ℕ} {s : State} → Run mp schedule s → Holds s
holds_in_runs no_step = holds_at_start
holds_in_runs (and_step run step) = holds_after_step (holds_in_runs run) step

pub no_old_data : NoOldData
no_old_data schedule threads reached at_end =
    let h : Holds (record { threads = threads; memory = reached.0 }) = holds_in_runs reached.1 in
    let is = ap (λ ts. get_or ts 1 start_thread) (sym h.threads) ∙ at_end in
    h.new (ap (λ q. q.line) is) (ap (λ q. get_or q.registers 0 0) is) (ap (λ q. get_or q.registers 1 0) is)
