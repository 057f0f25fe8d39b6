-- Every case of the table holds of the definitions on graphs and schedules.
use mathlib.Core.Path.{◌≡◌, refl, ap, sym, ◌∙◌}
use mathlib.Core.List.{List, map, Memᴰ as Member}
use mathlib.Core.Option.{some, some-injective}
use lib.ListN.{get_elem?}
use Rattle.lists.proofs.Places.{place_of_member, place_of_map}
use Rattle.verdicts.specs.Table.{Case, Holds, cases}
use Rattle.verdicts.proofs.BySearch.{Result, result_by_search, result_by_search_lem}

-- What the search hands back for a case, and what the case says.
abbrev computed : Case → Result
computed c = result_by_search c.bytes c.table_length c.trace

abbrev said : Case → Result
said c = record { report = c.report; trace = c.trace_at_exit }

-- One test over the table.
computed_as_said : map computed cases ≡ map said cases
unfolding cases result_by_search
computed_as_said = refl

-- Maps that agree on a list agree at its members.
member_mapped_alike : {A B : Type 0} (f g : A → B) (l : List A) → map f l ≡ map g l → {a : A} → Member a l → f a ≡ g a
member_mapped_alike f g l same {a} m =
    let (i, there) = place_of_member l m in
    some-injective (f a) (g a)
    (sym (place_of_map f l i there) ∙ ap (λ r. get_elem? r i) same ∙ place_of_map g l i there)

-- "The starred cases are proved about the definitions as entries of one table."
pub every_case_holds : (c : Case) → Member c cases → Holds c
every_case_holds c m =
    let same =
    result_by_search_lem c.bytes c.table_length c.trace
    ∙ member_mapped_alike computed said cases computed_as_said m in
    record {
      answered = ap (λ (r : Result). r.report) same;
      traced = ap (λ (r : Result). r.trace) same;
    }
