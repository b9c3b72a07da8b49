-- Uses of names that obey by what all uses of a file bind and declare obey their rules where a game is printed.
use Rattle.std.proofs.Common.{◌≡◌, ◌⊎◌, ℕ, Bool, true, false, ◌&&◌, ◌||◌, ◌==◌, not, if◌then◌else◌, List, [], ◌∷◌, ◌++◌, append_assoc, append-nil, Option, Some, None, inl, inr, refl, ap, sym, ◌∙◌, subst}
use Rattle.std.proofs.lemmas.Bool.{and_from, false_from_ne_true, not_from_false, not-true, or_cases, or_from, or_left, or_right}
use Rattle.std.proofs.lemmas.List.Folds.{list_any-append}
use Rattle.cv_syntax_trees.specs.Declarations.{Declaration, Named, Equation, Equiv, Query}
use Rattle.cv_parse_notation.specs.Spells.{Use}
use Rattle.cv_parse_grammar.specs.declared.role.Asked.{Asked}
use Rattle.cv_parse_grammar.specs.declared.role.Asked.TheVariants.{AFunction, AnEquivalence, AParam}
use Rattle.cv_parse_grammar.specs.declared.role.Region.TheVariants.{InProcess}
use Rattle.cv_parse_grammar.specs.declared.role.Role.{Role}
use Rattle.cv_parse_grammar.specs.declared.role.Role.TheVariants.{Declares, Asks, BindsVariable, BindsIndex, AsksIndex, Mentions, MentionsCell, AsCall, AsArray, AsBare, Enters, Leaves}
use Rattle.cv_parse_grammar.specs.Identities.{AreDistinct, ids_of, is_among}
use Rattle.cv_parse_grammar.specs.Names.{AreNamed, Uses, as_bare, as_call, binds, binds_bound, binds_index, binds_variable, cell_known_in, declares, declares_as, is_declared, is_function, is_used, is_variable, known_in, obeys, part_from, same_asked}
use Rattle.cv_parse.specs.Games.{asked_by}
use Rattle.cv_print_bytes.specs.terminals.Told.{Piece, Shown, Told, uses_in}
use Rattle.cv_print_back.proofs.files.Declaring.{declaring, declaring_use, named_use, uses_of_all}
use Rattle.cv_print_back.proofs.files.TextNames.{known_still, part_stays, used_left}
use Rattle.cv_print_back.proofs.files.Passing.{AtEnd, Obey, ends, fits, use_of, variable_of, variables_in, with_index}
use Rattle.cv_print_back.proofs.files.Tales.{told_by}

-- uses without their places

abbrev pub bare : Uses → Uses
bare [] = []
bare (u ∷ us) = use_of u.role u.name ∷ bare us

pub bare_told : (ps : List Piece) (k : ℕ) (us : Uses) → bare (uses_in ps k ++ us) ≡ told_by ps (bare us)
unfolding uses_in told_by
bare_told [] k us = refl
bare_told (Shown s ∷ ps) k us = bare_told ps k us
bare_told (Told r x ∷ ps) k us = ap (λ l. use_of r x ∷ l) (bare_told ps k us)

pub bare_variables : (us : Uses) → variables_in (bare us) ≡ variables_in us
bare_variables [] = refl
bare_variables (u ∷ us) = ap (variable_of u.role u.name) (bare_variables us)

bare_nil : (us : Uses) → bare us ≡ [] → us ≡ []
bare_nil [] e = refl
bare_nil (u ∷ us) e = absurd (cc)

bare_call : (us : Uses) → as_call (bare us) ≡ as_call us
bare_call [] = refl
bare_call (u ∷ us) = refl

bare_bare : (us : Uses) → as_bare (bare us) ≡ as_bare us
bare_bare [] = refl
bare_bare (u ∷ us) = refl

-- every use obeys, behind others
abbrev pub ObeyFrom : Uses → Uses → Type 0
ObeyFrom before [] = Unit {0}
ObeyFrom before (u ∷ us) = (obeys before u.role u.name us ≡ true) × ObeyFrom (before ++ u ∷ []) us

all_obey : (front us : Uses) → ObeyFrom front us → (before : Uses) (u : Use Role) (behind : Uses) → us ≡ before ++ u ∷ behind → obeys (front ++ before) u.role u.name behind ≡ true
all_obey front [] w [] u behind s = absurd (cc)
all_obey front [] w (v ∷ before) u behind s = absurd (cc)
all_obey front (v ∷ us) w [] u behind s =
    let i : v ≡ u = cc in let j : us ≡ behind = cc in
    subst (λ z. obeys (front ++ []) z.role z.name behind ≡ true) i (subst (λ z. obeys z v.role v.name behind ≡ true) (sym (append-nil front)) (subst (λ z. obeys front v.role v.name z ≡ true) j w.0))
all_obey front (v ∷ us) w (x ∷ before) u behind s =
    let i : v ≡ x = cc in let j : us ≡ before ++ u ∷ behind = cc in
    subst (λ z. obeys (front ++ z ∷ before) u.role u.name behind ≡ true) i (subst (λ z. obeys z u.role u.name behind ≡ true) (append_assoc front (v ∷ []) before) (all_obey (front ++ v ∷ []) us w.1 before u behind j))

pub are_named : (us : Uses) → ObeyFrom [] us → AreNamed us
are_named us w before u behind s = all_obey [] us w before u behind s

-- a use that declares is among those that declare

one_declared : (a : Asked) (r : Role) (x y : ℕ) (us : Uses) (b : Bool) → b ≡ is_used (declares_as a) y us → ((declares_as a r && (x == y)) || b) ≡ is_used (declares_as a) y (declaring_use r x us)
one_declared a (Declares c) x y us b e = ap (λ d. (same_asked a c && (x == y)) || d) e
one_declared a r x y us b e = e

pub declared_there : (a : Asked) (y : ℕ) (us : Uses) → is_used (declares_as a) y us ≡ is_used (declares_as a) y (declaring us)
declared_there a y [] = refl
declared_there a y (u ∷ us) = one_declared a u.role u.name y (declaring us) (is_used (declares_as a) y us) (declared_there a y us)

one_declares : (r : Role) (x y : ℕ) (us : Uses) (b : Bool) → b ≡ is_used declares y us → ((declares r && (x == y)) || b) ≡ is_used declares y (declaring_use r x us)
one_declares (Declares c) x y us b e = ap (λ d. (x == y) || d) e
one_declares r x y us b e = e

pub any_declared : (y : ℕ) (us : Uses) → is_used declares y us ≡ is_used declares y (declaring us)
any_declared y [] = refl
any_declared y (u ∷ us) = one_declares u.role u.name y (declaring us) (is_used declares y us) (any_declared y us)

-- declarations obey, where no name is declared twice

record DeclareOnly (before : Uses) : Type 0 where
  no_binding : (x : ℕ) → is_used binds x before ≡ false
  no_bound : (x : ℕ) → is_used binds_bound x before ≡ false

declare_more : (before : Uses) (a : Asked) (x : ℕ) → DeclareOnly before → DeclareOnly (before ++ use_of (Declares a) x ∷ [])
declare_more before a x w = record {
  no_binding = λ y. list_any-append (λ u. binds u.role && (u.name == y)) before (use_of (Declares a) x ∷ []) ∙ or_from (is_used binds y before) false (w.no_binding y) refl;
  no_bound = λ y. list_any-append (λ u. binds_bound u.role && (u.name == y)) before (use_of (Declares a) x ∷ []) ∙ or_from (is_used binds_bound y before) false (w.no_bound y) refl;
}

abbrev AmongIds : Uses → List ℕ → Type 0
AmongIds before ids = (x : ℕ) → is_used declares x before ≡ true → is_among ids x ≡ true

among_more : (before : Uses) (ids : List ℕ) (x : ℕ) → AmongIds before ids → AmongIds before (ids ++ x ∷ [])
among_more before ids x i y e = list_any-append (λ z. z == y) ids (x ∷ []) ∙ or_left (is_among ids y) (is_among (x ∷ []) y) (i y e)

among_both : (before : Uses) (ids : List ℕ) (a : Asked) (x : ℕ) → AmongIds before ids → AmongIds (before ++ use_of (Declares a) x ∷ []) (ids ++ x ∷ [])
among_both before ids a x i y e = elim (or_cases (is_used declares y before) (is_used declares y (use_of (Declares a) x ∷ [])) (sym (list_any-append (λ u. declares u.role && (u.name == y)) before (use_of (Declares a) x ∷ [])) ∙ e)) [
  | inl k ↦ among_more before ids x i y k
  | inr k ↦ list_any-append (λ z. z == y) ids (x ∷ []) ∙ or_right (is_among ids y) (is_among (x ∷ []) y) k
]

declares_once : (before : Uses) (ids more : List ℕ) (a : Asked) (x : ℕ) (us : Uses) → DeclareOnly before → AmongIds before ids → AreDistinct (ids ++ x ∷ more) → obeys before (Declares a) x us ≡ true
declares_once before ids more a x us w i d =
    let once : is_used declares x before ≡ false = false_from_ne_true (is_used declares x before) (λ e. let t : is_among ids x ≡ true = i x e in let f : is_among ids x ≡ false = d ids x more refl in let b : true ≡ false = sym t ∙ f in cc) in
    and_from (not (is_declared before x)) (not (is_used binds x before) && (same_asked a AParam || not (is_used binds_bound x before))) (not_from_false (is_used declares x before) once)
    (and_from (not (is_used binds x before)) (same_asked a AParam || not (is_used binds_bound x before)) (not_from_false (is_used binds x before) (w.no_binding x))
    (or_right (same_asked a AParam) (not (is_used binds_bound x before)) (not_from_false (is_used binds_bound x before) (w.no_bound x))))

abbrev Declare : List Declaration → Type 0
Declare ds = (before us : Uses) (ids : List ℕ) → DeclareOnly before → AmongIds before ids → AreDistinct (ids ++ ids_of ds) → ObeyFrom (before ++ uses_of_all ds []) us → ObeyFrom before (uses_of_all ds us)

named_declare : (o : Option Asked) (x : ℕ) (ds : List Declaration) → Declare ds → (before us : Uses) (ids : List ℕ) → DeclareOnly before → AmongIds before ids → AreDistinct (ids ++ x ∷ ids_of ds) → ObeyFrom (before ++ named_use o x (uses_of_all ds [])) us → ObeyFrom before (named_use o x (uses_of_all ds us))
named_declare None x ds next before us ids w i d k = next before us (ids ++ x ∷ []) w (among_more before ids x i) (subst AreDistinct (sym (append_assoc ids (x ∷ []) (ids_of ds))) d) k
named_declare (Some a) x ds next before us ids w i d k = (
  declares_once before ids (ids_of ds) a x (uses_of_all ds us) w i d,
  next (before ++ use_of (Declares a) x ∷ []) us (ids ++ x ∷ []) (declare_more before a x w) (among_both before ids a x i) (subst AreDistinct (sym (append_assoc ids (x ∷ []) (ids_of ds))) d)
      (subst (λ z. ObeyFrom z us) (sym (append_assoc before (use_of (Declares a) x ∷ []) (uses_of_all ds []))) k),
)

declare_all : (ds : List Declaration) → Declare ds
declare_all [] before us ids w i d k = subst (λ z. ObeyFrom z us) (append-nil before) k
declare_all (Named x c args result ∷ ds) before us ids w i d k = named_declare (asked_by c) x ds (declare_all ds) before us ids w i d k
declare_all (Equation t ∷ ds) before us ids w i d k = declare_all ds before us ids w i d k
declare_all (Equiv x t ∷ ds) before us ids w i d k = named_declare (Some AnEquivalence) x ds (declare_all ds) before us ids w i d k
declare_all (Query t ∷ ds) before us ids w i d k = declare_all ds before us ids w i d k

pub declarations_obey : (ds : List Declaration) (us : Uses) → AreDistinct (ids_of ds) → ObeyFrom (uses_of_all ds []) us → ObeyFrom [] (uses_of_all ds us)
declarations_obey ds us d k = declare_all ds [] us [] (record { no_binding = λ x. refl; no_bound = λ x. refl }) (λ x e. absurd (cc)) d k

-- the process behind declarations

-- What is declared and bound in all uses is declared before, or bound before or behind.
module _ (all : Uses) where
  pub record Ready (seen : List ℕ) (before us : Uses) : Type 0 where
    pub asked : (a : Asked) (x : ℕ) → is_used (declares_as a) x all ≡ true → is_used (declares_as a) x before ≡ true
    pub declared : (x : ℕ) → is_used declares x all ≡ false → is_used declares x before ≡ false
    pub variable : (x : ℕ) → is_used binds_variable x all ≡ true → is_variable before us x ≡ true
    pub index : (x : ℕ) → is_among seen x ≡ true → is_used binds_index x before ≡ true
    pub part : part_from None before ≡ Some InProcess

  abbrev use_at : Role → ℕ → ℕ → Use Role
  use_at r x l = record { role = r; name = x; left = l }

  obeys_printed : (r : Role) (x l : ℕ) (seen : List ℕ) (before us : Uses) → Ready seen before (use_at r x l ∷ us) → fits all false seen r x (bare us) ≡ true → obeys before r x us ≡ true
  obeys_printed (Asks a) x l seen before us w e = w.asked a x e
  obeys_printed BindsVariable x l seen before us w e = not_from_false (is_declared before x) (w.declared x (not-true (is_used declares x all) e))
  obeys_printed BindsIndex x l seen before us w e = not_from_false (is_declared before x) (w.declared x (not-true (is_used declares x all) e))
  obeys_printed AsksIndex x l seen before us w e = w.index x e
  obeys_printed Mentions x l seen before us w e =
      ap (λ q. known_in q before us x) w.part
      ∙ known_still (as_call us) (as_bare us) (is_used (declares_as AFunction) x all) (is_used binds_variable x all) (is_among seen x) (is_function before x) (is_variable before us x) (is_used binds_index x before)
      (w.asked AFunction x) (w.variable x) (w.index x)
      (subst (λ c. (if as_call us then is_used (declares_as AFunction) x all else is_used binds_variable x all || (c && (is_used (declares_as AFunction) x all || is_among seen x))) ≡ true) (bare_bare us)
      (subst (λ c. (if c then is_used (declares_as AFunction) x all else is_used binds_variable x all || (as_bare (bare us) && (is_used (declares_as AFunction) x all || is_among seen x))) ≡ true) (bare_call us) e))
  obeys_printed MentionsCell x l seen before us w e = ap (λ q. cell_known_in q before us x) w.part ∙ w.variable x e
  obeys_printed AsCall x l seen before us w e = refl
  obeys_printed AsArray x l seen before us w e = refl
  obeys_printed AsBare x l seen before us w e = refl
  obeys_printed r x l seen before us w e = absurd (cc)

  undeclared : (r : Role) (x y : ℕ) (seen : List ℕ) (vs : Uses) → fits all false seen r x vs ≡ true → ((declares r && (x == y)) || false) ≡ false
  undeclared (Declares a) x y seen vs e = absurd (cc)
  undeclared r x y seen vs e = refl

  moved : (a b c : Bool) → (a || (b || c)) ≡ true → ((a || (b || false)) || c) ≡ true
  moved true b c e = refl
  moved false true c e = refl
  moved false false c e = e

  now_bound : (r : Role) (x y : ℕ) (seen : List ℕ) (b : Bool) → (is_among seen y ≡ true → b ≡ true) → is_among (with_index seen r x) y ≡ true → (b || ((binds_index r && (x == y)) || false)) ≡ true
  now_bound BindsIndex x y seen b i e = elim (or_cases (x == y) (is_among seen y) e) [
    | inl k ↦ or_right b ((x == y) || false) (or_left (x == y) false k)
    | inr k ↦ or_left b ((x == y) || false) (i k)
  ]
  now_bound r x y seen b i e = or_left b _ (i e)

  ready_next : (seen : List ℕ) (before : Uses) (u : Use Role) (us : Uses) → ends u.role ≡ false → fits all false seen u.role u.name (bare us) ≡ true → Ready seen before (u ∷ us) → Ready (with_index seen u.role u.name) (before ++ u ∷ []) us
  ready_next seen before u us n e w = record {
    asked = λ a x k. used_left (declares_as a) x before (u ∷ []) (w.asked a x k);
    declared = λ x k. list_any-append (λ v. declares v.role && (v.name == x)) before (u ∷ []) ∙ or_from (is_used declares x before) (is_used declares x (u ∷ [])) (w.declared x k) (undeclared u.role u.name x seen (bare us) e);
    variable = λ x k. ap (λ c. c || is_used binds_variable x us) (list_any-append (λ v. binds_variable v.role && (v.name == x)) before (u ∷ [])) ∙ moved (is_used binds_variable x before) (binds_variable u.role && (u.name == x)) (is_used binds_variable x us) (w.variable x k);
    index = λ x k. list_any-append (λ v. binds_index v.role && (v.name == x)) before (u ∷ []) ∙ now_bound u.role u.name x seen (is_used binds_index x before) (w.index x) k;
    part = part_stays before u n w.part;
  }

  ends_obey : (r : Role) (x : ℕ) (before us : Uses) → ends r ≡ true → obeys before r x us ≡ true
  ends_obey (Enters q) x before us e = refl
  ends_obey Leaves x before us e = refl
  ends_obey r x before us e = absurd (cc)

  one_end : (b c : Bool) (P Q : Type 0) → b ≡ c → AtEnd b P Q → ((c ≡ true) × P) ⊎ ((c ≡ false) × Q)
  one_end true c P Q e w = inl (sym e, w)
  one_end false c P Q e w = inr (sym e, w)

  pub obeys_in_print : (us before : Uses) (seen : List ℕ) → Ready seen before us → Obey all false seen (bare us) → ObeyFrom before us
  obeys_in_print [] before seen w k = tt
  obeys_in_print (u ∷ us) before seen w k =
      elim (one_end (ends u.role) (ends u.role) (bare us ≡ []) ((fits all false seen u.role u.name (bare us) ≡ true) × Obey all false (with_index seen u.role u.name) (bare us)) refl k) [
        | inl p ↦ (ends_obey u.role u.name before us p.0, subst (λ z. ObeyFrom (before ++ u ∷ []) z) (sym (bare_nil us p.1)) tt)
        | inr p ↦ (obeys_printed u.role u.name u.left seen before us w p.1.0, obeys_in_print us (before ++ u ∷ []) (with_index seen u.role u.name) (ready_next seen before u us p.0 p.1.0 w) p.1.1)
      ]
