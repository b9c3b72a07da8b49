-- What a file declares is what its uses of names declare, and only its process has variables and indices.
use Rattle.std.proofs.Common.{◌≡◌, ℕ, Bool, true, false, ◌&&◌, ◌==◌, not, List, [], ◌∷◌, ◌++◌, append_assoc, map, Option, Some, None, refl, ap, sym, ◌∙◌}
use Rattle.std.specs.Prelude.{flat_map}
use Rattle.std.proofs.lemmas.Bool.{and_parts, or_from}
use Rattle.std.proofs.lemmas.List.Folds.{list_any-append}
use Rattle.cv_syntax_trees.specs.Tree.{Tree}
use Rattle.cv_syntax_trees.specs.Declarations.{Declaration, Named, Equation, Equiv, Query}
use Rattle.cv_syntax_trees.specs.declared.class.Class.TheVariants as class
use Rattle.cv_parse_notation.specs.declared.sign.Mark.{Mark}
use Rattle.cv_parse_notation.specs.declared.sign.Mark.TheVariants as mark
use Rattle.cv_parse_notation.specs.Form.{made, many, may, unnamed, ◌▸◌, ◌◂◌}
use Rattle.cv_parse_grammar.specs.declared.role.Asked.{Asked}
use Rattle.cv_parse_grammar.specs.declared.role.Asked.TheVariants.{AParam, AChannel, AFunction, AnEvent, AProbability, AnEquivalence, AType}
use Rattle.cv_parse_grammar.specs.declared.role.Role.{Role}
use Rattle.cv_parse_grammar.specs.declared.role.Role.TheVariants.{Declares}
use Rattle.cv_parse_grammar.specs.Declarations.{channel_decl, collision_decl, const_decl, constant, declaration, equation_decl, equiv_decl, event_decl, fun_decl, ids, named, param_decl, proba_decl, query_decl, type_decl}
use Rattle.cv_parse_grammar.specs.Names.{Uses, binds_index, binds_variable, declares, is_used}
use Rattle.cv_parse_grammar.specs.Phrases.{Phrase, Sort}
use Rattle.cv_parse_grammar.specs.Phrases as sort
use Rattle.cv_parse_grammar.specs.Processes.{inputs}
use Rattle.cv_parse_grammar.specs.Rules.{proof_block, rule}
use Rattle.cv_parse.specs.Games.{asked_by}
use Rattle.cv_print_back.proofs.files.Passing.{use_of}
use Rattle.cv_print_back.proofs.files.Quiet.{QuietAt, Keeps, quiet_says, is_quiet, quietly, where_it}
use Rattle.cv_print_back.proofs.files.Saying.{InTurn, Makes, Run, Says, Word, a_word, before, behind, follow, in_row, one_of, several, turned, weaker}

-- the uses that declare a name, wherever they stand

abbrev pub declaring_use : Role → ℕ → Uses → Uses
declaring_use (Declares a) x us = use_of (Declares a) x ∷ us
declaring_use r x us = us

abbrev pub declaring : Uses → Uses
declaring [] = []
declaring (u ∷ us) = declaring_use u.role u.name (declaring us)

-- those of declarations, in front of others

abbrev pub named_use : Option Asked → ℕ → Uses → Uses
named_use None x us = us
named_use (Some a) x us = use_of (Declares a) x ∷ us

abbrev pub uses_of : Declaration → Uses → Uses
uses_of (Named x c args result) us = named_use (asked_by c) x us
uses_of (Equation t) us = us
uses_of (Equiv x t) us = named_use (Some AnEquivalence) x us
uses_of (Query t) us = us

abbrev pub uses_of_all : List Declaration → Uses → Uses
uses_of_all [] us = us
uses_of_all (d ∷ ds) us = uses_of d (uses_of_all ds us)

-- phrases that declare nothing

abbrev pub declares_none : Role → Bool
declares_none r = not (declares r)

abbrev pub any_sort : Sort → Bool
any_sort s = true

abbrev pub SameDeclared : Uses → Uses → Type 0
SameDeclared us vs = declaring us ≡ declaring vs

undeclaring : (r : Role) (x : ℕ) (us : Uses) → declares_none r ≡ true → declaring_use r x us ≡ us
undeclaring (Declares a) x us e = absurd (cc)
undeclaring r x us e = refl

pub same_declared : Keeps declares_none SameDeclared
same_declared = record {
  none = λ us vs e. ap declaring e;
  both = λ us ws vs p q. p ∙ q;
  one = λ r x us vs e w. ap declaring w.1 ∙ undeclaring r x (declaring vs) e;
}

pub sort_declares_none : (s : Sort) → is_quiet declares_none any_sort (rule s) ≡ true
unfolding is_quiet
sort_declares_none sort.Term = refl
sort_declares_none sort.Conjunction = refl
sort_declares_none sort.Primary = refl
sort_declares_none sort.Unequal = refl
sort_declares_none sort.Arguments = refl
sort_declares_none sort.Subscript = refl
sort_declares_none sort.Parentheses = refl
sort_declares_none sort.Inputs = refl
sort_declares_none sort.Input = refl
sort_declares_none sort.Output = refl
sort_declares_none sort.Pattern = refl
sort_declares_none sort.Sending = refl
sort_declares_none sort.Payload = refl
sort_declares_none sort.Variables = refl
sort_declares_none sort.Indices = refl
sort_declares_none sort.ProcessBranch = refl
sort_declares_none sort.Cells = refl
sort_declares_none sort.OneCell = refl
sort_declares_none sort.Body = refl
sort_declares_none sort.BodyBranch = refl
sort_declares_none sort.LeftFunction = refl
sort_declares_none sort.RightFunction = refl
sort_declares_none sort.RightRest = refl
sort_declares_none sort.RightSide = refl
sort_declares_none sort.Braces = refl

abbrev pub Undeclaring : Sort → Run Tree
Undeclaring s t us vs = QuietAt declares_none any_sort SameDeclared same_declared s t us vs

pub undeclaring_rows : (s : Sort) (t : Tree) (us vs : Uses) → Says Undeclaring (rule s) t us vs → Undeclaring s t us vs
undeclaring_rows s t us vs y = quiet_says declares_none any_sort SameDeclared same_declared (rule s) (sort_declares_none s) t us vs y

-- phrases with neither variables nor indices of the process

abbrev pub binds_outside : Role → Bool
binds_outside r = not (binds_variable r) && not (binds_index r)

abbrev pub outside : Sort → Bool
outside sort.Inputs = false
outside sort.Input = false
outside sort.Output = false
outside sort.Pattern = false
outside sort.Sending = false
outside sort.Variables = false
outside sort.Indices = false
outside sort.ProcessBranch = false
outside s = true

-- uses in front of others that bind none
pub record IsOutside (us vs : Uses) : Type 0 where
  pub front : Uses
  pub split : us ≡ front ++ vs
  pub variables : (x : ℕ) → is_used binds_variable x front ≡ false
  pub indices : (x : ℕ) → is_used binds_index x front ≡ false

not_one : (p : Role → Bool) (r : Role) (x y : ℕ) → not (p r) ≡ true → (p r && (x == y)) ≡ false
not_one p r x y e = go (p r) e
  where
    go : (b : Bool) → not b ≡ true → (b && (x == y)) ≡ false
    go false e = refl
    go true e = absurd (cc)

pub is_outside : Keeps binds_outside IsOutside
is_outside = record {
  none = λ us vs e. record { front = []; split = e; variables = λ x. refl; indices = λ x. refl };
  both = λ us ws vs p q. record {
    front = p.front ++ q.front;
    split = p.split ∙ (ap (λ l. p.front ++ l) q.split ∙ sym (append_assoc p.front q.front vs));
    variables = λ x. list_any-append (λ u. binds_variable u.role && (u.name == x)) p.front q.front ∙ or_from _ _ (p.variables x) (q.variables x);
    indices = λ x. list_any-append (λ u. binds_index u.role && (u.name == x)) p.front q.front ∙ or_from _ _ (p.indices x) (q.indices x);
  };
  one = λ r x us vs e w. record {
    front = record { role = r; name = x; left = w.0 } ∷ [];
    split = w.1;
    variables = λ y. or_from (binds_variable r && (x == y)) false (not_one binds_variable r x y (and_parts (not (binds_variable r)) (not (binds_index r)) e).0) refl;
    indices = λ y. or_from (binds_index r && (x == y)) false (not_one binds_index r x y (and_parts (not (binds_variable r)) (not (binds_index r)) e).1) refl;
  };
}

sort_is_outside : (s : Sort) → outside s ≡ true → is_quiet binds_outside outside (rule s) ≡ true
unfolding is_quiet
sort_is_outside sort.Term e = refl
sort_is_outside sort.Conjunction e = refl
sort_is_outside sort.Primary e = refl
sort_is_outside sort.Unequal e = refl
sort_is_outside sort.Arguments e = refl
sort_is_outside sort.Subscript e = refl
sort_is_outside sort.Parentheses e = refl
sort_is_outside sort.Inputs e = absurd (cc)
sort_is_outside sort.Input e = absurd (cc)
sort_is_outside sort.Output e = absurd (cc)
sort_is_outside sort.Pattern e = absurd (cc)
sort_is_outside sort.Sending e = absurd (cc)
sort_is_outside sort.Payload e = refl
sort_is_outside sort.Variables e = absurd (cc)
sort_is_outside sort.Indices e = absurd (cc)
sort_is_outside sort.ProcessBranch e = absurd (cc)
sort_is_outside sort.Cells e = refl
sort_is_outside sort.OneCell e = refl
sort_is_outside sort.Body e = refl
sort_is_outside sort.BodyBranch e = refl
sort_is_outside sort.LeftFunction e = refl
sort_is_outside sort.RightFunction e = refl
sort_is_outside sort.RightRest e = refl
sort_is_outside sort.RightSide e = refl
sort_is_outside sort.Braces e = refl

abbrev pub Outside : Sort → Run Tree
Outside s t us vs = QuietAt binds_outside outside IsOutside is_outside s t us vs

pub outside_rows : (s : Sort) (t : Tree) (us vs : Uses) → Says Outside (rule s) t us vs → Outside s t us vs
outside_rows s t us vs y = where_it (outside s) (IsOutside us vs) (λ e. quiet_says binds_outside outside IsOutside is_outside (rule s) (sort_is_outside s e) t us vs y)

pub declarations_outside : Makes Outside (many false declaration) (λ _. IsOutside)
unfolding is_quiet
declarations_outside = quietly binds_outside outside IsOutside is_outside refl

pub script_outside : Makes Outside (may false (mark.Proof ▸ proof_block)) (λ _. IsOutside)
unfolding is_quiet
script_outside = quietly binds_outside outside IsOutside is_outside refl

pub script_undeclaring : Makes Undeclaring (may false (mark.Proof ▸ proof_block)) (λ _. SameDeclared)
unfolding is_quiet
script_undeclaring = quietly declares_none any_sort SameDeclared same_declared refl

pub process_undeclaring : Makes Undeclaring inputs (λ _. SameDeclared)
unfolding is_quiet
process_undeclaring = quietly declares_none any_sort SameDeclared same_declared refl

-- the rows of declarations

abbrev pub Declares_all : Run (List Declaration)
Declares_all ds us vs = declaring us ≡ uses_of_all ds (declaring vs)

abbrev Row : {A : Type 0} → Phrase A → Run A → Type 0
Row f Q = Makes Undeclaring f Q

quiet_part : {A : Type 0} {f : Phrase A} → is_quiet declares_none any_sort f ≡ true → Row f (λ _. SameDeclared)
quiet_part e = quietly declares_none any_sort SameDeclared same_declared e

-- names of one kind
abbrev OfKind : Asked → Run (List ℕ)
OfKind a l us vs = InTurn (Word (Declares a)) l us vs

list_declares : (a : Asked) (k : ℕ → Declaration) → ((x : ℕ) (us : Uses) → uses_of (k x) us ≡ use_of (Declares a) x ∷ us) → (l : List ℕ) (us vs : Uses) → OfKind a l us vs → Declares_all (map k l) us vs
list_declares a k i [] us vs e = ap declaring e
list_declares a k i (x ∷ l) us vs w = ap declaring w.1.1 ∙ (ap (λ z. use_of (Declares a) x ∷ z) (list_declares a k i l w.0 vs w.2) ∙ sym (i x _))

one_declares : (a : Asked) (x : ℕ) (us ws vs : Uses) → Word (Declares a) x us ws → SameDeclared ws vs → declaring us ≡ use_of (Declares a) x ∷ declaring vs
one_declares a x us ws vs w e = ap declaring w.1 ∙ ap (λ z. use_of (Declares a) x ∷ z) e

of_ids : {a : Asked} → Row (ids (Declares a)) (OfKind a)
of_ids = in_row a_word

ended : {A : Type 0} {m : Mark} {f : Phrase A} {p : Run A} {v : A → List Declaration} → Row f p → ((a : A) (us vs : Uses) → p a us vs → Declares_all (v a) us vs) → Row (made v (m ▸ f ◂ mark.Dot)) Declares_all
ended i k = turned (behind (before i)) k

of_param : Row param_decl Declares_all
of_param = ended of_ids (list_declares AParam (named class.Param) (λ x us. refl))

of_channel : Row channel_decl Declares_all
of_channel = ended of_ids (list_declares AChannel (named class.Channel) (λ x us. refl))

of_proba : Row proba_decl Declares_all
of_proba = ended a_word (λ x us vs w. one_declares AProbability x us vs vs w refl)

of_type : Row type_decl Declares_all
unfolding is_quiet
of_type = ended (follow a_word (quiet_part refl)) (λ x us vs w. one_declares AType x.0 us w.0 vs w.1 w.2)

of_const : Row const_decl Declares_all
unfolding is_quiet
of_const = ended (follow of_ids (quiet_part refl)) (λ x us vs w. list_declares AFunction (constant x.1) (λ x us. refl) x.0 us w.0 w.1 ∙ ap (uses_of_all (map (constant x.1) x.0)) w.2)

of_fun : Row fun_decl Declares_all
unfolding is_quiet
of_fun = ended (follow a_word (quiet_part refl)) (λ x us vs w. one_declares AFunction x.0 us w.0 vs w.1 w.2)

of_event : Row event_decl Declares_all
unfolding is_quiet
of_event = ended (follow a_word (quiet_part refl)) (λ x us vs w. one_declares AnEvent x.0 us w.0 vs w.1 w.2)

of_equation : Row equation_decl Declares_all
unfolding is_quiet
of_equation = ended (quiet_part refl) (λ x us vs w. w)

of_collision : Row collision_decl Declares_all
unfolding is_quiet
of_collision = turned (follow (one_of (behind a_word) an_unnamed) (quiet_part refl)) (λ x us vs w. one_declares AnEquivalence x.0 us w.0 vs w.1 w.2)
  where
    an_unnamed : Row (unnamed (Declares AnEquivalence)) (Word (Declares AnEquivalence))
    an_unnamed = record { gives = λ a us vs y. y }

of_equiv : Row equiv_decl Declares_all
unfolding is_quiet
of_equiv = ended (follow a_word (quiet_part refl)) (λ x us vs w. one_declares AnEquivalence x.0 us w.0 vs w.1 w.2)

of_query : Row query_decl Declares_all
unfolding is_quiet
of_query = ended (quiet_part refl) (λ x us vs w. w)

of_declaration : Row declaration Declares_all
of_declaration =
    one_of of_param
    (one_of of_channel
    (one_of of_proba
    (one_of of_type
    (one_of of_const
    (one_of of_fun
    (one_of of_event
    (one_of of_equation
    (one_of of_collision
    (one_of of_equiv of_query)))))))))

uses_append : (ds es : List Declaration) (us : Uses) → uses_of_all (ds ++ es) us ≡ uses_of_all ds (uses_of_all es us)
uses_append [] es us = refl
uses_append (d ∷ ds) es us = ap (uses_of d) (uses_append ds es us)

each_declares : (l : List (List Declaration)) (us vs : Uses) → InTurn Declares_all l us vs → Declares_all (flat_map (λ d. d) l) us vs
each_declares [] us vs e = ap declaring e
each_declares (ds ∷ l) us vs w = w.1 ∙ (ap (uses_of_all ds) (each_declares l w.0 vs w.2) ∙ sym (uses_append ds (flat_map (λ d. d) l) (declaring vs)))

pub of_declarations : Row (many false declaration) (λ l. Declares_all (flat_map (λ d. d) l))
of_declarations = weaker (several of_declaration) each_declares
