-- The rules of names, read from left to right.
use Rattle.std.proofs.Common.{◌≡◌, ◌==◌, ℕ, ◌+◌, ◌<◌, ◌≤◌, Bool, true, false, not, ◌&&◌, option_map, List, [], ◌∷◌, ◌++◌, Option, Some, None, length, get_or, set, take, drop, refl, ap, ap₂, sym, ◌∙◌, arith, subst}
use Rattle.std.proofs.Math.ListN.{drop_of_length-le}
use Rattle.std.proofs.Math.Seq.{take-length}
use Rattle.std.proofs.lemmas.Bool.{eqb-true}
use Rattle.std.proofs.lemmas.List.{length-set, length-map, length-take-le}
use Rattle.cv_parse_notation.specs.Spells.{Use}
use Rattle.cv_parse_grammar.specs.InOrder.{first_broken}
use Rattle.cv_parse_grammar.specs.declared.role.Role.{Role}
use Rattle.cv_parse_grammar.specs.declared.role.Role.TheVariants.{Declares, Enters, Leaves}
use Rattle.cv_parse_grammar.specs.Names.{Uses, binds_variable, declares, fault_of, is_declared, is_used, name_fault, name_rule, obeys, own_from, part_from, part_after}
use Rattle.cv_parse_terms.specs.declared.trail.NameUse.{NameUse}
use Rattle.cv_parse_terms.specs.Gives.{use_of, uses_of}
use Rattle.cv_parse_names.specs.declared.table.Entry.{Entry}
use Rattle.cv_parse_names.specs.declared.table.Scope.{Scope}
use Rattle.cv_parse_names.specs.Table.{IsSurvey, entry_at, name_obeys, next_of, noted, part_behind, unseen, use_at}
use Rattle.cv_parse_names.proofs.Broken.{broken_behind, broken_here, broken_nowhere, rule_behind}
use Rattle.cv_parse_names.proofs.Decided.{obeyed}
use Rattle.cv_parse_names.proofs.Entries.{IsKnown, known_kept, known_noted, part_from_push}
use Rattle.cv_parse_names.proofs.Places.{dropped, entry_kept, entry_read, entry_written, taken, whole}

-- The uses before a place obey their rules, and the table and the scope say what they do.
pub record IsReadTo (uses : List NameUse) (at : ℕ) (table : List Entry) (s : Scope) : Type 0 where
  pub covers : (k : ℕ) → k < length uses → (use_at uses k).name < length table
  pub entries : (x : ℕ) → IsKnown (uses_of uses) (uses_of (take at uses)) x s.start (entry_at table x)
  pub region : s.region ≡ part_from None (uses_of (take at uses))
  pub start : s.start ≤ at
  pub good : first_broken name_rule (uses_of uses) ≡ first_broken (rule_behind name_rule (uses_of (take at uses))) (uses_of (drop at uses))

known_first : (all : Uses) (x : ℕ) → IsKnown all [] x 0 (record unseen { declared_somewhere = is_used declares x all; variable_somewhere = is_used binds_variable x all })
unfolding own_from
known_first all x = record { declared_somewhere = refl; variable_somewhere = refl; declared = refl; asked = λ a. refl; bound = refl; own = refl; early = λ at h. absurd (cc); as_bound = refl; as_index = refl }

pub reading_starts : (uses : List NameUse) (table : List Entry) → IsSurvey uses (length uses) table → IsReadTo uses 0 table (record { region = None; start = 0 })
unfolding part_from
reading_starts uses table k = record {
  covers = k.covers;
  entries = λ x. subst (IsKnown (uses_of uses) [] x 0) (sym (k.entries x ∙ ap (λ us. record unseen { declared_somewhere = is_used declares x (uses_of us); variable_somewhere = is_used binds_variable x (uses_of us) }) (take-length uses))) (known_first (uses_of uses) x);
  region = refl;
  start = omega arith;
  good = refl;
}

-- a declaration that obeys its rule is the first one
first_declared : (r : Role) (x : ℕ) (before behind : Uses) → declares r ≡ true → obeys before r x behind ≡ true → is_declared before x ≡ false
first_declared (Declares a) x before behind d h = not_true (is_declared before x) _ h
  where
    not_true : (b c : Bool) → (not b && c) ≡ true → b ≡ false
    not_true true c h = absurd (cc)
    not_true false c h = refl
first_declared r x before behind d h = absurd (cc)

-- what is known of a name behind one more use
known_then : (all before : Uses) (s : Scope) (table : List Entry) (u : Use Role) (x : ℕ) (b : Bool) → (u.name == x) ≡ b → u.name < length table → (declares u.role ≡ true → is_declared before u.name ≡ false) → s.start ≤ length before → ((y : ℕ) → IsKnown all before y s.start (entry_at table y)) → IsKnown all (before ++ u ∷ []) x (part_behind s u.role (length before)).start (entry_at (set table u.name (noted (entry_at table u.name) u.role (length before))) x)
known_then all before s table u x true e h first l k =
    subst (IsKnown all (before ++ u ∷ []) x (part_behind s u.role (length before)).start) (sym (entry_written table u.name x (noted (entry_at table u.name) u.role (length before)) h e))
    (subst (λ y. IsKnown all (before ++ u ∷ []) y (part_behind s u.role (length before)).start (noted (entry_at table u.name) u.role (length before))) (eqb-true u.name x e) (known_noted all before s (entry_at table u.name) u first l (k u.name)))
known_then all before s table u x false e h first l k =
    subst (IsKnown all (before ++ u ∷ []) x (part_behind s u.role (length before)).start) (sym (entry_kept table u.name x (noted (entry_at table u.name) u.role (length before)) e))
    (known_kept all before s (entry_at table x) u x e (k x))

-- a use at a place, by the table
pub reading_obeys : (uses : List NameUse) (at : ℕ) (table : List Entry) (s : Scope) → at < length uses → IsReadTo uses at table s → name_obeys (entry_at table (use_at uses at).name) s (use_at uses at).role (next_of (uses_of (drop (at + 1) uses))) ≡ name_rule (uses_of (take at uses)) (use_of (use_at uses at)) (uses_of (drop (at + 1) uses))
reading_obeys uses at table s l k =
    obeyed (use_of (use_at uses at)) (uses_of (take at uses)) (uses_of (drop (at + 1) uses)) s (entry_at table (use_at uses at).name) k.region
    (subst (λ all. IsKnown all (uses_of (take at uses)) (use_at uses at).name s.start (entry_at table (use_at uses at).name)) (whole uses at l) (k.entries (use_at uses at).name))

length_before : (uses : List NameUse) (at : ℕ) → at ≤ length uses → length (uses_of (take at uses)) ≡ at
length_before uses at l = length-map (take at uses) use_of ∙ length-take-le at uses l

region_then : (s : Scope) (r : Role) (n : ℕ) → (part_behind s r n).region ≡ part_after s.region r
region_then s (Enters q) n = refl
region_then s Leaves n = refl
region_then s r n = refl

start_then : (s : Scope) (r : Role) (n : ℕ) → s.start ≤ n → (part_behind s r n).start ≤ n + 1
start_then s (Enters q) n l = omega arith
start_then s Leaves n l = omega arith
start_then s r n l = omega arith

-- behind a use that obeys its rule
pub reading_goes_on : (uses : List NameUse) (at : ℕ) (table : List Entry) (s : Scope) → at < length uses → IsReadTo uses at table s → name_obeys (entry_at table (use_at uses at).name) s (use_at uses at).role (next_of (uses_of (drop (at + 1) uses))) ≡ true → IsReadTo uses (at + 1) (set table (use_at uses at).name (noted (entry_at table (use_at uses at).name) (use_at uses at).role at)) (part_behind s (use_at uses at).role at)
reading_goes_on uses at table s l k o = record {
  covers = λ j h. let m = k.covers j h in let e = length-set table u.name (noted (entry_at table u.name) u.role at) in omega arith;
  entries = λ x. subst (λ us. IsKnown all us x (part_behind s u.role at).start (entry_at (set table u.name (noted (entry_at table u.name) u.role at)) x)) (sym (taken uses at l))
      (subst (λ n. IsKnown all (before ++ u ∷ []) x (part_behind s u.role n).start (entry_at (set table u.name (noted (entry_at table u.name) u.role n)) x)) n
      (known_then all before s table u x (u.name == x) refl (k.covers at l) (λ d. first_declared u.role u.name before behind d obeys_now) (subst (λ m. s.start ≤ m) (sym n) k.start) k.entries));
  region = region_then s u.role at ∙ (ap (λ q. part_after q u.role) k.region ∙ (sym (part_from_push None before u) ∙ ap (part_from None) (sym (taken uses at l))));
  start = start_then s u.role at k.start;
  good = k.good ∙ (ap (first_broken (rule_behind name_rule before)) (dropped uses at l) ∙ (broken_behind name_rule before u behind obeys_now ∙ ap (λ us. first_broken (rule_behind name_rule us) behind) (sym (taken uses at l))));
}
  where
    all : Uses
    all = uses_of uses

    before : Uses
    before = uses_of (take at uses)

    behind : Uses
    behind = uses_of (drop (at + 1) uses)

    u : Use Role
    u = use_of (use_at uses at)

    n : length before ≡ at
    n = length_before uses at (omega arith)

    obeys_now : name_rule before u behind ≡ true
    obeys_now = sym (reading_obeys uses at table s l k) ∙ o

-- at a use that breaks its rule
pub reading_stops : (uses : List NameUse) (at : ℕ) (table : List Entry) (s : Scope) → at < length uses → IsReadTo uses at table s → name_obeys (entry_at table (use_at uses at).name) s (use_at uses at).role (next_of (uses_of (drop (at + 1) uses))) ≡ false → name_fault (uses_of uses) ≡ Some (fault_of (use_of (use_at uses at)))
reading_stops uses at table s l k o = ap (option_map fault_of)
    (k.good ∙ (ap (first_broken (rule_behind name_rule (uses_of (take at uses)))) (dropped uses at l)
    ∙ broken_here name_rule (uses_of (take at uses)) (use_of (use_at uses at)) (uses_of (drop (at + 1) uses)) (sym (reading_obeys uses at table s l k) ∙ o)))

-- The same, of what the code reads and writes.

decided : (uses : List NameUse) (at : ℕ) (table : List Entry) (s : Scope) (e : Entry) (next : Option Role) (b : Bool) → e ≡ entry_at table (use_at uses at).name → next ≡ next_of (uses_of (drop (at + 1) uses)) → b ≡ name_obeys e s (use_at uses at).role next → name_obeys (entry_at table (use_at uses at).name) s (use_at uses at).role (next_of (uses_of (drop (at + 1) uses))) ≡ b
decided uses at table s e next b f g h = sym (h ∙ ap₂ (λ z n. name_obeys z s (use_at uses at).role n) f g)

pub reading_noted : (uses : List NameUse) (at : ℕ) (table : List Entry) (s after : Scope) (e written : Entry) (next : Option Role) (b : Bool) → at < length uses → IsReadTo uses at table s → e ≡ get_or table (use_at uses at).name e → next ≡ next_of (uses_of (drop (at + 1) uses)) → b ≡ name_obeys e s (use_at uses at).role next → b ≡ true → written ≡ noted e (use_at uses at).role at → after ≡ part_behind s (use_at uses at).role at → IsReadTo uses (at + 1) (set table (use_at uses at).name written) after
reading_noted uses at table s after e written next b l k f g h o w a =
    let i : e ≡ entry_at table (use_at uses at).name = entry_read table (use_at uses at).name e (k.covers at l) f in
    subst (λ z. IsReadTo uses (at + 1) (set table (use_at uses at).name z) after) (sym (w ∙ ap (λ z. noted z (use_at uses at).role at) i))
    (subst (IsReadTo uses (at + 1) (set table (use_at uses at).name (noted (entry_at table (use_at uses at).name) (use_at uses at).role at))) (sym a)
    (reading_goes_on uses at table s l k (decided uses at table s e next b i g h ∙ o)))

pub reading_faulty : (uses : List NameUse) (at : ℕ) (table : List Entry) (s : Scope) (e : Entry) (next : Option Role) (b : Bool) → at < length uses → IsReadTo uses at table s → e ≡ get_or table (use_at uses at).name e → next ≡ next_of (uses_of (drop (at + 1) uses)) → b ≡ name_obeys e s (use_at uses at).role next → b ≡ false → name_fault (uses_of uses) ≡ Some (fault_of (use_of (use_at uses at)))
reading_faulty uses at table s e next b l k f g h o =
    reading_stops uses at table s l k (decided uses at table s e next b (entry_read table (use_at uses at).name e (k.covers at l) f) g h ∙ o)

-- at the end
pub reading_ends : (uses : List NameUse) (at : ℕ) (table : List Entry) (s : Scope) → length uses ≤ at → IsReadTo uses at table s → name_fault (uses_of uses) ≡ None
reading_ends uses at table s l k = ap (option_map fault_of)
    (k.good ∙ (ap (λ us. first_broken (rule_behind name_rule (uses_of (take at uses))) (uses_of us)) (drop_of_length-le uses l)
    ∙ broken_nowhere (rule_behind name_rule (uses_of (take at uses)))))
