-- Two accesses of different threads change places: the later one is made first, and the earlier one after it gives
-- the same state.
use mathlib.Core.Path.{◌≡◌, sym, ap, ◌∙◌, subst⁻¹}
use mathlib.Core.List.{List, [], ◌∷◌, ◌++◌, Memᴰ as Member}
use mathlib.Core.Option.{some}
use mathlib.Core.Logic.{◌≢◌}
use Prim.Native.Nat.{ℕ}
use lib.ListN.{length, set, get_or}
use lib.Seq.{get_or-set_other, set_comm}
use Rattle.lists.proofs.Ends.{member_put_in}
use Rattle.program.specs.Program.{Program}
use Rattle.program.specs.Thread.{start_thread, next_line, ThreadState}
use Rattle.model.specs.Graph.{Id, event, Event, Graph, events_of, order, value_written, value_of, next_id, event_of}
use Rattle.model.specs.Graph.{directly_after, extend}
use Rattle.model.specs.Run.{State, thread_of, Access, graph_after, state_after}
use Rattle.model.proofs.Lookup.{other_events}
use Rattle.model.proofs.WellFormed.{listed_event_stays}
use Rattle.model.proofs.Reachable.{Good, addition_of}

-- A step of another thread leaves a thread's state.
pub other_thread : (ts : List ThreadState) (q t : ℕ) (r : ThreadState) → q ≢ t
    → get_or (set ts q r) t start_thread ≡ get_or ts t start_thread
other_thread ts q t r n = get_or-set_other ts q t r start_thread (λ k. n (sym k))

-- Additions by two different threads commute where the orders do.
pub extend_commutes : (g : Graph) (t q : ℕ) (e f : Event) (x y : ℕ) (l l' m m' : List Id) → t ≢ q
    → set (set g.orders x l) y m ≡ set (set g.orders y m') x l'
    → extend (extend g t e x l) q f y m ≡ extend (extend g q f y m') t e x l'
unfolding extend
extend_commutes g t q e f x y l l' m m' n o i = record { events = events i; orders = o i }
  where
    events : (extend (extend g t e x l) q f y m).events ≡ (extend (extend g q f y m') t e x l').events
    events =
        ap (λ es. set (set g.events t (events_of g t ++ e ∷ [])) q (es ++ f ∷ []))
        (other_events g t e x l q (λ k. n (sym k)))
        ∙ set_comm g.events t q (events_of g t ++ e ∷ []) (events_of g q ++ f ∷ []) n
        ∙ ap (λ es. set (set g.events q (events_of g q ++ f ∷ [])) t (es ++ e ∷ []))
        (sym (other_events g q f y m' t n))

module _ {p : Program} {s : State} {q t : ℕ} (f : Good p s) (a : Access p s q) (b : Access p (state_after a) t)
    (n : q ≢ t) where
  pub thread_unmoved : thread_of (state_after a) t ≡ thread_of s t
  unfolding state_after
  thread_unmoved = other_thread s.threads q t a.effect.after n

  pub value_unmoved : Member b.picked (order s.graph b.location)
      → value_of (state_after a).graph b.picked ≡ value_of s.graph b.picked
  unfolding state_after graph_after
  value_unmoved m = ap value_written (listed_event_stays f.well_formed (addition_of f a) b.location b.picked m)

  module _ (earlier : List Id) (split : order s.graph b.location ≡ b.before ++ b.picked ∷ earlier) where
    -- The later access made first, with those after its picked write that were there.
    abbrev pub pulled : Access p s t
    pulled =
        record {
          location = b.location;
          effects = b.effects;
          line = ap (next_line p t) (sym thread_unmoved) ∙ b.line;
          before = b.before;
          picked = b.picked;
          after = earlier;
          split = split;
          effect = b.effect;
          allows =
              ap b.effects
              (sym
              (value_unmoved (subst⁻¹ (Member b.picked) split (member_put_in b.before b.picked earlier))))
              ∙ b.allows;
        }

  -- What the earlier access finds when it is made after the later one, and that the two orders come out the same.
  pub record Swap (earlier : List Id) (split : order s.graph b.location ≡ b.before ++ b.picked ∷ earlier)
      : Type 0 where
    pub front : List Id
    pub final : Id
    pub found : order (state_after (pulled earlier split)).graph a.location ≡ front ++ final ∷ []
    pub allows : a.effects (value_of (state_after (pulled earlier split)).graph final) ≡ some a.effect
    pub same_event : event_of a.effect.action a.location
        (value_of (state_after (pulled earlier split)).graph final) final
        ≡ event_of a.effect.action a.location (value_of s.graph a.picked) a.picked
    pub same_orders :
        set
        (set s.graph.orders b.location
        (b.before ++ b.picked ∷ directly_after b.effect.action (next_id s.graph t) earlier))
        a.location (front ++ final ∷ directly_after a.effect.action (next_id s.graph q) [])
        ≡ set
        (set s.graph.orders a.location
        (a.before ++ a.picked ∷ directly_after a.effect.action (next_id s.graph q) a.after))
        b.location (b.before ++ b.picked ∷ directly_after b.effect.action (next_id s.graph t) b.after)

  module _ (earlier : List Id) (split : order s.graph b.location ≡ b.before ++ b.picked ∷ earlier)
      (w : Swap earlier split) where
    unfoldable pub second : Access p (state_after (pulled earlier split)) q
    unfolding state_after
    second =
        record {
          location = a.location;
          effects = a.effects;
          line = ap (next_line p q) (other_thread s.threads t q b.effect.after (λ k. n (sym k))) ∙ a.line;
          before = w.front;
          picked = w.final;
          after = [];
          split = w.found;
          effect = a.effect;
          allows = w.allows;
        }

    pub exchanged : state_after second ≡ state_after b
    unfolding state_after graph_after second
    exchanged i = record { threads = threads i; graph = graph i }
      where
        threads : set (set s.threads t b.effect.after) q a.effect.after
            ≡ set (set s.threads q a.effect.after) t b.effect.after
        threads = set_comm s.threads t q b.effect.after a.effect.after (λ k. n (sym k))

        here : Graph
        here = (state_after (pulled earlier split)).graph

        between : Event → List Id → Graph
        between e l = extend here q e a.location l

        new_b : Event
        new_b = event_of b.effect.action b.location (value_of s.graph b.picked) b.picked

        new_a : Event
        new_a = event_of a.effect.action a.location (value_of s.graph a.picked) a.picked

        place_b : List Id → List Id
        place_b l = b.before ++ b.picked ∷ directly_after b.effect.action (next_id s.graph t) l

        place_a : List Id
        place_a = a.before ++ a.picked ∷ directly_after a.effect.action (next_id s.graph q) a.after

        id_a : next_id here q ≡ next_id s.graph q
        id_a = ap (λ es. event q (length es)) (other_events s.graph t new_b b.location (place_b earlier) q n)

        id_b : next_id s.graph t ≡ next_id (state_after a).graph t
        id_b =
            ap (λ es. event t (length es))
            (sym (other_events s.graph q new_a a.location place_a t (λ k. n (sym k))))

        value_b : value_of s.graph b.picked ≡ value_of (state_after a).graph b.picked
        value_b =
            sym (value_unmoved (subst⁻¹ (Member b.picked) split (member_put_in b.before b.picked earlier)))

        graph : graph_after second ≡ graph_after b
        graph =
            (λ i. between (w.same_event i) (w.front ++ w.final ∷ directly_after a.effect.action (id_a i) []))
            ∙ extend_commutes s.graph t q new_b new_a b.location a.location (place_b earlier) (place_b b.after)
            (w.front ++ w.final ∷ directly_after a.effect.action (next_id s.graph q) []) place_a
            (λ k. n (sym k)) w.same_orders
            ∙ (λ i. extend (state_after a).graph t (event_of b.effect.action b.location (value_b i) b.picked)
            b.location
            (b.before ++ b.picked ∷ directly_after b.effect.action (id_b i) b.after))
