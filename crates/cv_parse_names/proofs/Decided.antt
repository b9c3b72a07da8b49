-- The rules by an entry are the rules of names.
use Rattle.std.proofs.Common.{◌≡◌, ◌==◌, ℕ, Bool, true, false, ◌&&◌, ◌||◌, not, if◌then◌else◌, [], ◌∷◌, ◌++◌, Option, Some, None, refl, ap, ap₂, ◌∙◌}
use Rattle.std.proofs.lemmas.List.Folds.{list_any-append}
use Rattle.cv_syntax_trees.proofs.lists.Tests.{not_or}
use Rattle.cv_parse_notation.specs.Spells.{Use}
use Rattle.cv_parse_grammar.specs.declared.role.Asked.TheVariants.{AParam, AFunction}
use Rattle.cv_parse_grammar.specs.declared.role.Region.{Region}
use Rattle.cv_parse_grammar.specs.declared.role.Region.TheVariants.{InEquation, InQuery, InEquivalence, InProcess}
use Rattle.cv_parse_grammar.specs.declared.role.Role.{Role}
use Rattle.cv_parse_grammar.specs.declared.role.Role.TheVariants.{Declares, Asks, BindsLocal, BindsBound, AsksBound, BindsVariable, BindsIndex, AsksIndex, Mentions, AsCall, AsBare, MentionsCell}
use Rattle.cv_parse_grammar.specs.Names.{Uses, as_bare, as_call, binds_variable, cell_known_in as cell_known_there, declares, is_declared, is_free, is_function, is_used, is_variable, known_in as known_there, obeys, part_from, same_asked}
use Rattle.cv_parse_names.specs.declared.table.Entry.{Entry}
use Rattle.cv_parse_names.specs.declared.table.Scope.{Scope}
use Rattle.cv_parse_names.specs.Table.{called, bare, cell_known_in, goes_on_as_call, goes_on_bare, is_since, known_in, name_obeys, next_of, stands_as_function}
use Rattle.cv_parse_names.proofs.Entries.{IsKnown}

ap3 : (f : Bool → Bool → Bool → Bool) {a b c i j k : Bool} → a ≡ i → b ≡ j → c ≡ k → f a b c ≡ f i j k
ap3 f {a} {b} {c} {i} {j} d e g = ap (λ z. f z b c) d ∙ (ap (λ z. f i z c) e ∙ ap (f i j) g)

-- how the term goes on

call_follows : (us : Uses) → goes_on_as_call (next_of us) ≡ as_call us
call_follows [] = refl
call_follows (u ∷ us) = elim u.role as (λ r. called r ≡ elim r [ AsCall ↦ true | _ ↦ false ]) [ AsCall ↦ refl | _ ↦ refl ]

bare_follows : (us : Uses) → goes_on_bare (next_of us) ≡ as_bare us
bare_follows [] = refl
bare_follows (u ∷ us) = elim u.role as (λ r. bare r ≡ elim r [ AsBare ↦ true | _ ↦ false ]) [ AsBare ↦ refl | _ ↦ refl ]

-- a use says nothing of its own name where it is none of the kind
around : (p : Role → Bool) (x : ℕ) (before behind : Uses) (u : Use Role) → p u.role ≡ false → is_used p x (before ++ u ∷ behind) ≡ (is_used p x before || is_used p x behind)
around p x before behind u e = list_any-append (λ v. p v.role && (v.name == x)) before (u ∷ behind) ∙ ap (λ b. is_used p x before || ((b && (u.name == x)) || is_used p x behind)) e

free_there : (before behind : Uses) (u : Use Role) (x start : ℕ) (e : Entry) → declares u.role ≡ false → IsKnown (before ++ u ∷ behind) before x start e → not e.declared_somewhere ≡ is_free before behind x
free_there before behind u x start e n k = ap not (k.declared_somewhere ∙ around declares x before behind u n) ∙ not_or (is_declared before x) (is_declared behind x)

variable_there : (before behind : Uses) (u : Use Role) (x start : ℕ) (e : Entry) → binds_variable u.role ≡ false → IsKnown (before ++ u ∷ behind) before x start e → e.variable_somewhere ≡ is_variable before behind x
variable_there before behind u x start e n k = k.variable_somewhere ∙ around binds_variable x before behind u n

-- a name of a term

other_known : (before behind : Uses) (x start : ℕ) (all : Uses) (e : Entry) → IsKnown all before x start e → (stands_as_function e (next_of behind) || (not (goes_on_as_call (next_of behind)) && is_since start e.bound_at)) ≡ known_there None before behind x
other_known before behind x start all e k =
    ap3 (λ c b f. ((c || b) && f) || (not c && is_since start e.bound_at)) (call_follows behind) (bare_follows behind) (k.asked AFunction)
    ∙ ap (λ o. ((as_call behind || as_bare behind) && is_function before x) || (not (as_call behind) && o)) k.own

mention_known : (q : Option Region) (before behind : Uses) (u : Use Role) (x start : ℕ) (e : Entry) → declares u.role ≡ false → binds_variable u.role ≡ false → IsKnown (before ++ u ∷ behind) before x start e → known_in q e start (next_of behind) ≡ known_there q before behind x
mention_known (Some InProcess) before behind u x start e n v k =
    ap3 (λ c f b. if c then f else e.variable_somewhere || (b && (f || e.as_index))) (call_follows behind) (k.asked AFunction) (bare_follows behind)
    ∙ ap₂ (λ w i. if as_call behind then is_function before x else w || (as_bare behind && (is_function before x || i))) (variable_there before behind u x start e v k) k.as_index
mention_known (Some InEquivalence) before behind u x start e n v k =
    ap3 (λ c b f. if is_since start e.bound_at then not c else ((c || b) && f) || not e.declared_somewhere) (call_follows behind) (bare_follows behind) (k.asked AFunction)
    ∙ ap₂ (λ o f. if o then not (as_call behind) else ((as_call behind || as_bare behind) && is_function before x) || f) k.own (free_there before behind u x start e n k)
mention_known (Some InEquation) before behind u x start e n v k = other_known before behind x start (before ++ u ∷ behind) e k
mention_known (Some InQuery) before behind u x start e n v k = other_known before behind x start (before ++ u ∷ behind) e k
mention_known None before behind u x start e n v k = other_known before behind x start (before ++ u ∷ behind) e k

other_cell : (before behind : Uses) (u : Use Role) (x start : ℕ) (e : Entry) → declares u.role ≡ false → IsKnown (before ++ u ∷ behind) before x start e → (is_since start e.bound_at || not e.declared_somewhere) ≡ cell_known_there None before behind x
other_cell before behind u x start e n k = ap₂ (λ o f. o || f) k.own (free_there before behind u x start e n k)

mention_cell : (q : Option Region) (before behind : Uses) (u : Use Role) (x start : ℕ) (e : Entry) → declares u.role ≡ false → binds_variable u.role ≡ false → IsKnown (before ++ u ∷ behind) before x start e → cell_known_in q e start ≡ cell_known_there q before behind x
mention_cell (Some InProcess) before behind u x start e n v k = variable_there before behind u x start e v k
mention_cell (Some InEquivalence) before behind u x start e n v k = other_cell before behind u x start e n k
mention_cell (Some InEquation) before behind u x start e n v k = other_cell before behind u x start e n k
mention_cell (Some InQuery) before behind u x start e n v k = other_cell before behind u x start e n k
mention_cell None before behind u x start e n v k = other_cell before behind u x start e n k

-- every rule

obeys_there : (r : Role) (x left : ℕ) (before behind : Uses) (s : Scope) (e : Entry) → s.region ≡ part_from None before → IsKnown (before ++ record { role = r; name = x; left = left } ∷ behind) before x s.start e → name_obeys e s r (next_of behind) ≡ obeys before r x behind
obeys_there (Declares a) x left before behind s e q k = ap3 (λ d b i. not d && (not b && (same_asked a AParam || not i))) k.declared k.bound k.as_bound
obeys_there (Asks a) x left before behind s e q k = k.asked a
obeys_there BindsLocal x left before behind s e q k = ap not k.declared
obeys_there BindsVariable x left before behind s e q k = ap not k.declared
obeys_there BindsIndex x left before behind s e q k = ap not k.declared
obeys_there BindsBound x left before behind s e q k = ap₂ (λ d p. not d || p) k.declared (k.asked AParam)
obeys_there AsksBound x left before behind s e q k = ap₂ (λ d p. not d || p) k.declared (k.asked AParam)
obeys_there AsksIndex x left before behind s e q k = k.as_index
obeys_there Mentions x left before behind s e q k = mention_known s.region before behind (record { role = Mentions; name = x; left = left }) x s.start e refl refl k ∙ ap (λ p. known_there p before behind x) q
obeys_there MentionsCell x left before behind s e q k = mention_cell s.region before behind (record { role = MentionsCell; name = x; left = left }) x s.start e refl refl k ∙ ap (λ p. cell_known_there p before behind x) q
obeys_there r x left before behind s e q k = refl

pub obeyed : (u : Use Role) (before behind : Uses) (s : Scope) (e : Entry) → s.region ≡ part_from None before → IsKnown (before ++ u ∷ behind) before u.name s.start e → name_obeys e s u.role (next_of behind) ≡ obeys before u.role u.name behind
obeyed u before behind s e q k = obeys_there u.role u.name u.left before behind s e q k
