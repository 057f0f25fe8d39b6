-- A memory of messages and views: Figure 3 of source document 001, with what document 02, Point 6, says where the crawl
-- has damaged it. No graph stands here or in Machine. "The memory in the RA operational model is a set of timestamped
-- messages, which record all previously executed writes."
use Rattle.std.specs.Prelude.{ℕ, zero, suc, max, ◌≤◌, ◌<◌, ◌≡◌, cond, eqb}
use mathlib.Core.List.{List, [], ◌∷◌, Memᴰ as Member}

-- "times are natural numbers"; a view "is a function Loc → Time".
abbrev pub View : Type 0
View = ℕ → ℕ

-- "where T₀ ≜ λx. 0 denotes the initial view"; "all starts at time 0"
abbrev pub start_view : View
start_view x = 0

-- "⊔ denotes pointwise maximum"
unfoldable pub join : View → View → View
join T₁ T₂ x = max (T₁ x) (T₂ x)

-- T[x ↦ t]: the function with another result at one number.
unfoldable pub changed : {A : Type 0} → (ℕ → A) → ℕ → A → ℕ → A
changed f i a j = cond (eqb j i) a (f j)

-- "a message m ∈ Msg is a tuple of the form ⟨x=v@t, T⟩"
pub record Message : Type 0 where
  pub location : ℕ
  pub value : ℕ
  pub time : ℕ
  pub view : View

abbrev pub message : (x v t : ℕ) → View → Message
message x v t T = record { location = x; value = v; time = t; view = T }

-- A state of the RA memory subsystem: "it consists of memory and thread views".
pub record MemoryState : Type 0 where
  pub messages : List Message
  pub views : (thread : ℕ) → View

-- "{⟨x=0@0, T₀⟩ | x ∈ Loc}", for the locations below n.
unfoldable pub start_messages : ℕ → List Message
start_messages zero = []
start_messages (suc n) = message n 0 0 start_view ∷ start_messages n

-- "the initial state"
unfoldable pub start_memory : (locations : ℕ) → MemoryState
start_memory n = record { messages = start_messages n; views = λ thread. start_view }

-- A free time t of location x: "¬∃v', T'. ⟨x=v'@t, T'⟩ ∈ M".
abbrev pub Free : MemoryState → (x t : ℕ) → Type 0
Free m x t = (v : ℕ) (T : View) → Member (message x v t T) m.messages → ⊥

-- "M' = M ∪ {⟨x=v@t, T⟩}" and "𝒯' = 𝒯[τ ↦ T]", with one T: "a new message carries its writer's new view".
unfoldable pub with_message : MemoryState → (thread : ℕ) → Message → MemoryState
with_message m thread n = record { messages = n ∷ m.messages; views = changed m.views thread n.view }

-- "𝒯' = 𝒯[τ ↦ T]", and no new message.
unfoldable pub with_view : MemoryState → (thread : ℕ) → View → MemoryState
with_view m thread T = record { messages = m.messages; views = changed m.views thread T }

-- The view of a thread, T before its access, after it. A write at time t of x: "T = 𝒯(τ)[x ↦ t]".
unfoldable pub view_on_write : View → (x t : ℕ) → View
view_on_write T x t = changed T x t

-- A read that takes a message with a view: "𝒯(τ) ⊔ T".
unfoldable pub view_on_read : View → (taken : View) → View
view_on_read T taken = join T taken

-- A read-modify-write does both, with the next time after that of the message taken: "T_W = 𝒯(τ)[x ↦ t + 1] ⊔ T_R".
unfoldable pub view_on_update : View → (x next : ℕ) → (taken : View) → View
view_on_update T x next taken = join (changed T x next) taken

-- What an access asks of the memory, "R(x, v)", "W(x, v)" or "RMW(x, v_R, v_W)".
pub data Label : Type 0 where
  R : (x v : ℕ) → Label
  W : (x v : ℕ) → Label
  RMW : (x found v : ℕ) → Label

-- "Transitions of the RA memory subsystem", by a thread, with a label.
pub data Transition (thread : ℕ) (m : MemoryState) (l : Label) (m' : MemoryState) : Type 0 where
  -- "a write takes a free time above the view"
  by_write : (x v t : ℕ) → l ≡ W x v
      → Free m x t → m.views thread x < t
      → m' ≡ with_message m thread (message x v t (view_on_write (m.views thread) x t))
      → Transition thread m l m'
  -- "a read or read-modify-write takes a message not below the thread's view and joins that message's view"
  by_read : (x v t : ℕ) (T : View) → l ≡ R x v
      → Member (message x v t T) m.messages → m.views thread x ≤ t
      → m' ≡ with_view m thread (view_on_read (m.views thread) T)
      → Transition thread m l m'
  -- "a read-modify-write the free one directly after its message"
  by_update : (x found v t next : ℕ) (T : View) → l ≡ RMW x found v
      → Member (message x found t T) m.messages → m.views thread x ≤ t
      → next ≡ suc t → Free m x next
      → m' ≡ with_message m thread (message x v next (view_on_update (m.views thread) x next T))
      → Transition thread m l m'
