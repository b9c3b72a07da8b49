-- Rows that are alike, since for each name the same row is found: the same is asked by them, with the same faults.
use Rattle.std.proofs.Common.{◌≡◌, ◌∙◌, ◌&&◌, ◌||◌, Bool, true, false, cond, List, [], ◌∷◌, ◌++◌, append-nil, codes, fold, is_some, not, Option, Some, None, option_and_then, ap, ap₂, refl, sym, true≢false}
use Rattle.std.proofs.lemmas.List.Folds.{find-append}
use Rattle.std.specs.List.{list_any}
use Rattle.std.specs.Option.{option_map_or, option_or}
use Rattle.std.specs.Prelude.{slice_get}
use Rattle.std.specs.Str.{bytes_eq}
use Rattle.clap.specs.Facts.{explicit_source}
use Rattle.clap.specs.Faults.{check_fault, defaults_fault, given_default_fault}
use Rattle.clap.specs.Kinds.{Kinds, check_kinds, or_else}
use Rattle.clap.specs.Simple.{Shape}
use Rattle.clap.specs.Takes.{is_given}
use Rattle.clap.specs.Walk.{Row, Rule, at_row, default_rows, first_of, has_row, is_empty, more_values, reading_by, with_default, with_values, without}
use Rattle.clap.specs.declared.builder.value_parser.Reading.{Reading}
use Rattle.clap.specs.declared.parser.matches.ValueSource.{ValueSource}
use Rattle.clap.specs.declared.parser.matches.ValueSource.TheVariants.{DefaultValue}
use Rattle.cv_outside.specs.words.Forms.{Text}
use Rattle.cv_outside.specs.words.Words.{asked_by, games_asked, prove_asked, sample_asked}
use Rattle.cv_outside.proofs.words.Arranged.{row_with}

abbrev pub Alike : List Row → List Row → Type 0
Alike a b = (id : Text) → row_with id a ≡ row_with id b

has_found : (id : Text) (rows : List Row) → has_row id rows ≡ is_some (row_with id rows)
has_found id [] = refl
has_found id (r ∷ rs) = go (bytes_eq r.id id) (has_found id rs)
  where
    go : (b : Bool) → has_row id rs ≡ is_some (row_with id rs) → (b || has_row id rs) ≡ is_some (cond b (Some r) (row_with id rs))
    go true e = refl
    go false e = e

has_alike : (a b : List Row) → Alike a b → (id : Text) → has_row id a ≡ has_row id b
has_alike a b s id = has_found id a ∙ (ap is_some (s id) ∙ sym (has_found id b))

-- a row that joins where none has its name

at_end : (id : Text) (change : Row → List Row) (missing rows : List Row) → has_row id rows ≡ false → at_row id change missing rows ≡ rows ++ missing
at_end id change missing [] n = refl
at_end id change missing (r ∷ rs) n = go (bytes_eq r.id id) (at_end id change missing rs) n
  where
    go : (b : Bool) → (has_row id rs ≡ false → at_row id change missing rs ≡ rs ++ missing) → (b || has_row id rs) ≡ false → cond b (change r ++ rs) (r ∷ at_row id change missing rs) ≡ r ∷ rs ++ missing
    go true h e = absurd (true≢false e)
    go false h e = ap (λ xs. r ∷ xs) (h e)

abbrev pub row_made : Text → Reading → ValueSource → List Text → Row
row_made id how source values = record { id = id; values = values; count = None; source = Some source; reading = how }

pub row_joins : (id : Text) (how : Reading) (source : ValueSource) (values : List Text) (rows : List Row) → has_row id rows ≡ false → with_values id how source values (without id rows) ≡ rows ++ row_made id how source values ∷ []
row_joins id how source values rows n =
    let none : without id rows ≡ rows = at_end id (λ _. []) [] rows n ∙ append-nil rows in
    ap (with_values id how source values) none ∙ at_end id (more_values source values) (row_made id how source values ∷ []) rows n

-- defaults

default_alike : (a b : List Row) → Alike a b → (rule : Rule) → Alike (with_default a rule) (with_default b rule)
default_alike a b s rule id = go (has_row rule.id a) refl
  where
    how : Reading
    how = reading_by rule

    joins : (values : List Text) → has_row rule.id a ≡ false → has_row rule.id b ≡ false → row_with id (default_rows rule.id how values a) ≡ row_with id (default_rows rule.id how values b)
    joins [] e f = s id
    joins (v ∷ vs) e f =
        let new = row_made rule.id how DefaultValue (v ∷ vs) ∷ [] in
        let change = more_values DefaultValue (v ∷ vs) in
        ap (row_with id) (at_end rule.id change new a e)
        ∙ (find-append (λ r. bytes_eq r.id id) a new
        ∙ (ap (λ o. option_or o (row_with id new)) (s id)
        ∙ (sym (find-append (λ r. bytes_eq r.id id) b new) ∙ sym (ap (row_with id) (at_end rule.id change new b f)))))

    by : (t : Bool) → has_row rule.id a ≡ t → has_row rule.id b ≡ t → row_with id (cond t a (default_rows rule.id how rule.defaults a)) ≡ row_with id (cond t b (default_rows rule.id how rule.defaults b))
    by true e f = s id
    by false e f = joins rule.defaults e f

    go : (t : Bool) → has_row rule.id a ≡ t → row_with id (with_default a rule) ≡ row_with id (with_default b rule)
    go t e =
        let f : has_row rule.id b ≡ t = sym (has_alike a b s rule.id) ∙ e in
        ap (λ x. row_with id (cond x a (default_rows rule.id how rule.defaults a))) e
        ∙ (by t e f ∙ sym (ap (λ x. row_with id (cond x b (default_rows rule.id how rule.defaults b))) f))

pub finished_alike : (rules : List Rule) (a b : List Row) → Alike a b → Alike (fold with_default a rules) (fold with_default b rules)
finished_alike [] a b s = s
finished_alike (rule ∷ rules) a b s = finished_alike rules (with_default a rule) (with_default b rule) (default_alike a b s rule)

-- faults

defaults_alike : (rules : List Rule) (a b : List Row) → Alike a b → defaults_fault a rules ≡ defaults_fault b rules
unfolding defaults_fault
defaults_alike [] a b s = refl
defaults_alike (rule ∷ rules) a b s =
    ap₂ or_else (ap (λ t. cond (t || is_empty rule.defaults) [] (given_default_fault rule rule.defaults)) (has_alike a b s rule.id))
    (defaults_alike rules (with_default a rule) (with_default b rule) (default_alike a b s rule))

wanted_alike : (rules : List Rule) (a b : List Row) → Alike a b → list_any (λ r. r.required && not (is_given r.id a)) rules ≡ list_any (λ r. r.required && not (is_given r.id b)) rules
wanted_alike [] a b s = refl
wanted_alike (rule ∷ rules) a b s =
    ap₂ ◌||◌ (ap (λ (o : Option Row). rule.required && not (option_map_or (λ r. explicit_source r.source) o false)) (s rule.id)) (wanted_alike rules a b s)

check_alike : (s : Shape) (a b : List Row) → s.arg_required_else_help ≡ false → Alike a b → check_fault s a false ≡ check_fault s b false
check_alike s a b e h =
    let explicit = λ (rows : List Row). not (list_any (λ r. explicit_source r.source) rows) in
    let unasked : (s.arg_required_else_help && explicit a) ≡ (s.arg_required_else_help && explicit b) = ap (λ t. t && explicit a) e ∙ sym (ap (λ t. t && explicit b) e) in
    ap₂ (λ x y. check_kinds x s.subcommand_required (not (s.subcommand_negates_reqs && false) && y)) unasked (wanted_alike s.rules a b h)

-- the faults of the rows behind a walk
abbrev pub rows_fault : Shape → List Row → Kinds
rows_fault s rows = or_else (defaults_fault rows s.rules) (check_fault s (fold with_default rows s.rules) false)

pub fault_alike : (s : Shape) (a b : List Row) → s.arg_required_else_help ≡ false → Alike a b → rows_fault s a ≡ rows_fault s b
fault_alike s a b e h =
    ap₂ or_else (defaults_alike s.rules a b h) (check_alike s (fold with_default a s.rules) (fold with_default b s.rules) e (finished_alike s.rules a b h))

-- what is asked

pub asked_alike : (name : Text) (a b : List Row) → Alike a b → asked_by name a ≡ asked_by name b
asked_alike name a b s =
    let same : (id : Text) → first_of id a ≡ first_of id b = λ id. ap (option_and_then (λ (r : Row). slice_get r.values 0)) (s id) in
    λ i. cond (bytes_eq name (codes "prove"))
    (prove_asked (same (codes "file") i) (same (codes "moves") i) (same (codes "more") i) (same (codes "lib") i) (same (codes "query") i))
    (cond (bytes_eq name (codes "games")) (games_asked (same (codes "file") i) (same (codes "lib") i))
    (sample_asked (same (codes "number") i) (same (codes "prove") i)))
