-- The names that a file declares are those that its uses of names declare.
use Rattle.std.proofs.Common.{◌≡◌, ◌⊎◌, ℕ, zero, suc, Bool, true, false, ◌&&◌, ◌||◌, ◌==◌, subst, not, List, [], ◌∷◌, ◌++◌, map, append_assoc, append-nil, inl, inr, refl, ap, ap₂, sym, ◌∙◌, Option, Some, None}
use Rattle.std.specs.Prelude.{flat_map}
use Rattle.cv_syntax_trees.proofs.lists.Tests.{and_first, and_second}
use Rattle.cv_syntax_trees.specs.Tree.{Tree, Node}
use Rattle.cv_syntax_trees.specs.declared.head.Head.TheVariants.{Equivalence, Forall}
use Rattle.cv_syntax_trees.specs.declared.class.Class.{Class}
use Rattle.cv_syntax_trees.specs.declared.class.Class.TheVariants as class
use Rattle.cv_syntax_trees.specs.Declarations.{Declaration, Named, Equation, Equiv, Query}
use Rattle.cv_parse_notation.specs.declared.sign.Mark.{Mark}
use Rattle.cv_parse_notation.specs.declared.sign.Mark.TheVariants as mark
use Rattle.cv_parse_notation.specs.declared.sign.Sign.{Sign}
use Rattle.cv_parse_notation.specs.Form.{sign, script_word, word, number, nought, find_word, unnamed, other, note, both, may, many, either, made, level, deeper, ◌&◌, ◌▸◌, ◌◂◌}
use Rattle.cv_parse_notation.specs.Spells.{Each, IsSort, Kind, Perhaps, Relation, Spells, Use, no_sort, starts, used}
use Rattle.cv_parse_grammar.specs.declared.role.Asked.{Asked}
use Rattle.cv_parse_grammar.specs.declared.role.Asked.TheVariants.{AParam, AChannel, AFunction, AnEvent, AProbability, AnEquivalence, AType}
use Rattle.cv_parse_grammar.specs.declared.role.Region.{Region}
use Rattle.cv_parse_grammar.specs.declared.role.Region.TheVariants.{InEquation, InEquivalence, InProcess, InQuery}
use Rattle.cv_parse_grammar.specs.declared.role.Role.{Role}
use Rattle.cv_parse_grammar.specs.declared.role.Role.TheVariants.{BindsLocal, Declares, Enters, Leaves}
use Rattle.cv_parse_grammar.specs.Declarations.{channel_decl, class_of, collision, collision_decl, collision_name, const_decl, constant, correspondence, data_option, declaration, equation_decl, equiv_decl, event_decl, forall_vars, fun_decl, ids, named, param_decl, proba_decl, probability, query_decl, secrecy, type_decl, type_list, type_options}
use Rattle.cv_parse_grammar.specs.Identities.{AreDistinct, declared_as, declared_by, declared_in, id_of, ids_of, is_among}
use Rattle.cv_parse_grammar.specs.Equivalences.{group}
use Rattle.cv_parse_grammar.specs.Files.{IsFile, levels}
use Rattle.cv_parse_grammar.specs.Names.{AreNamed, Uses, declares, is_declared, is_used, obeys}
use Rattle.cv_parse_grammar.specs.Phrases.{Sort, Phrase, Term, Conjunction, Primary, Unequal, Arguments, Subscript, Parentheses, Inputs, Input, Output, Pattern, Sending, Payload, Variables, Indices, ProcessBranch, Cells, OneCell, Body, BodyBranch, LeftFunction, RightFunction, RightRest, RightSide, Braces, inside, listed, row, type_name, typed}
use Rattle.cv_parse_grammar.specs.Processes.{inputs}
use Rattle.cv_parse_grammar.specs.Rules.{File, file, heads, proof_block, rule}
use Rattle.cv_parse_grammar.specs.Terms.{term}
use Rattle.cv_parse_grammar.specs.Whole.{IsRead, built_in}

declared_both : (us vs : Uses) → declared_in (us ++ vs) ≡ declared_in us ++ declared_in vs
declared_both [] vs = refl
declared_both (u ∷ us) vs = ap (λ l. declared_by u ++ l) (declared_both us vs) ∙ sym (append_assoc (declared_by u) (declared_in us) (declared_in vs))

-- phrases that declare nothing

abbrev is_quiet : Role → Bool
is_quiet (Declares a) = false
is_quiet r = true

unfoldable quiet : {A : Type 0} → Phrase A → Bool
quiet (word r) = is_quiet r
quiet (unnamed r) = is_quiet r
quiet (note r) = is_quiet r
quiet (both f g) = quiet f && quiet g
quiet (may near f) = quiet f
quiet (many near f) = quiet f
quiet (either f g) = quiet f && quiet g
quiet (made v f) = quiet f
quiet (level f) = quiet f
quiet _ = true

abbrev Quiet : {A : Type 0} → Relation Role A → Type 0
Quiet {A} P = (ts : List Sign) (a : A) (us : Uses) (rest : List Sign) → P ts a us rest → declared_in us ≡ []

quiet_use : (r : Role) (x : ℕ) (ts : List Sign) → is_quiet r ≡ true → declared_in (used r x ts) ≡ []
quiet_use (Declares a) x ts h = absurd (cc)
quiet_use r x ts h = refl

quiet_both : (us vs : Uses) → declared_in us ≡ [] → declared_in vs ≡ [] → declared_in (us ++ vs) ≡ []
quiet_both us vs e f = declared_both us vs ∙ ap₂ (λ a b. a ++ b) e f

quiet_perhaps : {A : Type 0} (P : Relation Role A) (near : Bool) (k : Kind → Bool) → Quiet P → Quiet (Perhaps P near k)
quiet_perhaps P near k q ts None us rest d = ap declared_in d.0.uses
quiet_perhaps P near k q ts (Some a) us rest d = q ts a us rest d

quiet_each : {A : Type 0} (P : Relation Role A) (near : Bool) (k : Kind → Bool) → Quiet P → Quiet (Each P near k)
quiet_each P near k q ts [] us rest d = ap declared_in d.0.uses
quiet_each P near k q ts (a ∷ l) us rest d = ap declared_in d.uses ∙ quiet_both d.front d.back (q ts a d.front d.mid d.first) (quiet_each P near k q d.mid l d.back rest d.second)

module _ (room : Bool) (below : Sort → Relation Role Tree) (low : (s : Sort) → Quiet (below s)) where
  says_nothing : {A : Type 0} (f : Phrase A) → quiet f ≡ true → Quiet (Spells heads room below f)
  unfolding quiet
  says_nothing (sign m) h ts a us rest d = ap declared_in d.uses
  says_nothing (script_word w) h ts a us rest d = ap declared_in d.uses
  says_nothing (word r) h ts a us rest d = ap declared_in d.uses ∙ quiet_use r a ts h
  says_nothing number h ts a us rest d = ap declared_in d.uses
  says_nothing nought h ts a us rest d = ap declared_in d.uses
  says_nothing find_word h ts a us rest d = ap declared_in d.uses
  says_nothing (unnamed r) h ts a us rest d = ap declared_in d.uses ∙ quiet_use r a ts h
  says_nothing other h ts a us rest d = ap declared_in d.2.uses
  says_nothing (note r) h ts a us rest d = ap declared_in d.1.uses ∙ quiet_use r 0 ts h
  says_nothing (both f g) h ts a us rest d = ap declared_in d.uses ∙ quiet_both d.front d.back (says_nothing f (and_first (quiet f) (quiet g) h) ts a.0 d.front d.mid d.first) (says_nothing g (and_second (quiet f) (quiet g) h) d.mid a.1 d.back rest d.second)
  says_nothing (may near f) h ts a us rest d = quiet_perhaps (Spells heads room below f) near (starts heads f) (says_nothing f h) ts a us rest d
  says_nothing (many near f) h ts a us rest d = quiet_each (Spells heads room below f) near (starts heads f) (says_nothing f h) ts a us rest d
  says_nothing (either f g) h ts a us rest d = elim d as (λ _. declared_in us ≡ []) [
    | inl e ↦ says_nothing f (and_first (quiet f) (quiet g) h) ts a us rest e
    | inr e ↦ says_nothing g (and_second (quiet f) (quiet g) h) ts a us rest e.1
  ]
  says_nothing (made v f) h ts a us rest d = says_nothing f h ts d.0 us rest d.1
  says_nothing (level f) h ts a us rest d = says_nothing f h ts a us rest d.1
  says_nothing (deeper s) h ts a us rest d = low s ts a us rest d

sort_quiet : (s : Sort) → quiet (rule s) ≡ true
unfolding quiet
sort_quiet Term = refl
sort_quiet Conjunction = refl
sort_quiet Primary = refl
sort_quiet Unequal = refl
sort_quiet Arguments = refl
sort_quiet Subscript = refl
sort_quiet Parentheses = refl
sort_quiet Inputs = refl
sort_quiet Input = refl
sort_quiet Output = refl
sort_quiet Pattern = refl
sort_quiet Sending = refl
sort_quiet Payload = refl
sort_quiet Variables = refl
sort_quiet Indices = refl
sort_quiet ProcessBranch = refl
sort_quiet Cells = refl
sort_quiet OneCell = refl
sort_quiet Body = refl
sort_quiet BodyBranch = refl
sort_quiet LeftFunction = refl
sort_quiet RightFunction = refl
sort_quiet RightRest = refl
sort_quiet RightSide = refl
sort_quiet Braces = refl

sorts_quiet : (n : ℕ) (s : Sort) → Quiet (IsSort heads rule n s)
unfolding IsSort
sorts_quiet zero s = says_nothing false no_sort (λ s ts t us rest d. absurd d) (rule s) (sort_quiet s)
sorts_quiet (suc n) s = says_nothing true (IsSort heads rule n) (sorts_quiet n) (rule s) (sort_quiet s)

-- phrases with the names that they declare

module _ (n : ℕ) where
  -- the names that a phrase declares are those of its value
  abbrev Names : {A : Type 0} → Phrase A → (A → List ℕ) → Type 0
  Names {A} f g = (ts : List Sign) (a : A) (us : Uses) (rest : List Sign) → Spells heads true (IsSort heads rule n) f ts a us rest → declared_in us ≡ g a

  quietly : {A : Type 0} (f : Phrase A) → quiet f ≡ true → Names f (λ _. [])
  quietly f h = says_nothing true (IsSort heads rule n) (sorts_quiet n) f h

  a_word : (a : Asked) → Names (word (Declares a)) (λ x. x ∷ [])
  a_word a ts x us rest d = ap declared_in d.uses

  a_collision : (a : Asked) → Names (unnamed (Declares a)) (λ x. x ∷ [])
  a_collision a ts x us rest d = ap declared_in d.uses

  follow : {A B : Type 0} (f : Phrase A) (g : Phrase B) {p : A → List ℕ} {q : B → List ℕ} → Names f p → Names g q → Names (f & g) (λ x. p x.0 ++ q x.1)
  follow f g h i ts x us rest d = ap declared_in d.uses ∙ (declared_both d.front d.back ∙ ap₂ (λ a b. a ++ b) (h ts x.0 d.front d.mid d.first) (i d.mid x.1 d.back rest d.second))

  -- the first part alone declares names
  at_first : {A B : Type 0} (f : Phrase A) (g : Phrase B) {p : A → List ℕ} → Names f p → quiet g ≡ true → Names (f & g) (λ x. p x.0)
  at_first f g {p = p} h e ts x us rest d = follow f g h (quietly g e) ts x us rest d ∙ append-nil (p x.0)

  turned : {A B : Type 0} (v : A → B) (f : Phrase A) (q : B → List ℕ) {p : A → List ℕ} → Names f p → ((a : A) → p a ≡ q (v a)) → Names (made v f) q
  turned v f q h e ts b us rest d = h ts d.0 us rest d.1 ∙ (e d.0 ∙ ap q d.2)

  behind : {A : Type 0} (m : Mark) (f : Phrase A) {p : A → List ℕ} → Names f p → Names (m ▸ f) p
  behind m f {p = p} h = turned (λ x. x.1) (sign m & f) p (follow (sign m) f (λ ts a us rest d. ap declared_in d.uses) h) (λ x. refl)

  before : {A : Type 0} (m : Mark) (f : Phrase A) {p : A → List ℕ} → Names f p → Names (f ◂ m) p
  unfolding quiet
  before m f {p = p} h = turned (λ x. x.0) (f & sign m) p (at_first f (sign m) h refl) (λ x. refl)

  each : {A : Type 0} (P : Relation Role A) (near : Bool) (k : Kind → Bool) (p : A → List ℕ) → ((ts : List Sign) (a : A) (us : Uses) (rest : List Sign) → P ts a us rest → declared_in us ≡ p a) → (ts : List Sign) (l : List A) (us : Uses) (rest : List Sign) → Each P near k ts l us rest → declared_in us ≡ flat_map p l
  each P near k p h ts [] us rest d = ap declared_in d.0.uses
  each P near k p h ts (a ∷ l) us rest d = ap declared_in d.uses ∙ (declared_both d.front d.back ∙ ap₂ (λ a b. a ++ b) (h ts a d.front d.mid d.first) (each P near k p h d.mid l d.back rest d.second))

  several : {A : Type 0} (near : Bool) (f : Phrase A) {p : A → List ℕ} → Names f p → Names (many near f) (flat_map p)
  several near f {p = p} h = each (Spells heads true (IsSort heads rule n) f) near (starts heads f) p h

  in_row : {A : Type 0} (m : Mark) (f : Phrase A) {p : A → List ℕ} → Names f p → Names (row m f) (flat_map p)
  in_row m f {p = p} h = turned (λ (a, l). a ∷ l) (f & many false (m ▸ f)) (flat_map p) (follow f (many false (m ▸ f)) h (several false (m ▸ f) (behind m f h))) (λ x. refl)

  one_of : {A : Type 0} (f g : Phrase A) {p : A → List ℕ} → Names f p → Names g p → Names (either f g) p
  one_of f g {p = p} h i ts a us rest d = elim d as (λ _. declared_in us ≡ p a) [ inl e ↦ h ts a us rest e | inr e ↦ i ts a us rest e.1 ]

  enclosed : {A : Type 0} (r : Region) (f : Phrase A) {p : A → List ℕ} → Names f p → Names (inside r f) p
  unfolding quiet
  enclosed r f {p = p} h =
      turned (λ (n, (a, m)). a) (note (Enters r) & (f & note Leaves)) p
      (follow (note (Enters r)) (f & note Leaves) (λ ts a us rest d. ap declared_in d.1.uses) (at_first f (note Leaves) h refl)) (λ x. refl)

  -- the rows of declarations

  names_of : (c : Class) (l : List ℕ) → flat_map (λ x. x ∷ []) l ≡ ids_of (map (named c) l)
  names_of c [] = refl
  names_of c (x ∷ l) = ap (λ k. x ∷ k) (names_of c l)

  constants_of : (T : ℕ) (l : List ℕ) → flat_map (λ x. x ∷ []) l ≡ ids_of (map (constant T) l)
  constants_of T [] = refl
  constants_of T (x ∷ l) = ap (λ k. x ∷ k) (constants_of T l)

  all_ids : (a : Asked) → Names (ids (Declares a)) (flat_map (λ x. x ∷ []))
  all_ids a = in_row mark.Comma (word (Declares a)) (a_word a)

  ended : {A : Type 0} (m : Mark) (v : A → List Declaration) (f : Phrase A) {p : A → List ℕ} → Names f p → ((a : A) → p a ≡ ids_of (v a)) → Names (made v (m ▸ f ◂ mark.Dot)) ids_of
  ended m v f h e = turned v (m ▸ f ◂ mark.Dot) ids_of (behind m (f ◂ mark.Dot) (before mark.Dot f h)) e

  of_param : Names param_decl ids_of
  of_param = ended mark.Param (map (named class.Param)) (ids (Declares AParam)) (all_ids AParam) (names_of class.Param)

  of_channel : Names channel_decl ids_of
  of_channel = ended mark.Channel (map (named class.Channel)) (ids (Declares AChannel)) (all_ids AChannel) (names_of class.Channel)

  of_proba : Names proba_decl ids_of
  of_proba = ended mark.Proba (λ x. named class.Proba x ∷ []) (word (Declares AProbability)) (a_word AProbability) (λ x. refl)

  of_type : Names type_decl ids_of
  unfolding quiet
  of_type = ended mark.TypeWord (λ (x, l). named (class_of l) x ∷ []) (word (Declares AType) & type_options) (at_first (word (Declares AType)) type_options (a_word AType) refl) (λ x. refl)

  of_const : Names const_decl ids_of
  unfolding quiet
  of_const = ended mark.ConstWord (λ (l, T). map (constant T) l) (ids (Declares AFunction) & (mark.Colon ▸ type_name)) (at_first (ids (Declares AFunction)) (mark.Colon ▸ type_name) (all_ids AFunction) refl) (λ x. constants_of x.1 x.0)

  of_fun : Names fun_decl ids_of
  unfolding quiet
  of_fun = ended mark.Fun (λ (f, (l, (T, d))). Named f (class.Fun d) l (Some T) ∷ []) (word (Declares AFunction) & (type_list & (mark.Colon ▸ (type_name & data_option)))) (at_first (word (Declares AFunction)) (type_list & (mark.Colon ▸ (type_name & data_option))) (a_word AFunction) refl) (λ x. refl)

  of_event : Names event_decl ids_of
  unfolding quiet
  of_event = ended mark.EventWord (λ (e, l). Named e class.Event l None ∷ []) (word (Declares AnEvent) & listed type_list) (at_first (word (Declares AnEvent)) (listed type_list) (a_word AnEvent) refl) (λ x. refl)

  of_equation : Names equation_decl ids_of
  unfolding quiet
  of_equation = ended mark.EquationWord (λ (l, t). Equation (Node Forall l t) ∷ []) (inside InEquation (forall_vars & term)) (quietly (inside InEquation (forall_vars & term)) refl) (λ x. refl)

  abbrev collided : Phrase ((ℕ × ℕ) × (Tree × (Tree × (ℕ × Tree))))
  collided = inside InEquivalence (mark.New ▸ (typed BindsLocal & (mark.Semicolon ▸ (forall_vars & (term & (probability & (term ◂ mark.Dot)))))))

  of_collision : Names collision_decl ids_of
  unfolding quiet
  of_collision =
      turned (λ (x, (key, (args, (l, (p, r))))). collision x key args l p r ∷ []) (collision_name & collided) ids_of
      (at_first collision_name collided (one_of (mark.Collision ▸ word (Declares AnEquivalence)) (unnamed (Declares AnEquivalence)) (behind mark.Collision (word (Declares AnEquivalence)) (a_word AnEquivalence)) (a_collision AnEquivalence)) refl) (λ x. refl)

  of_equiv : Names equiv_decl ids_of
  unfolding quiet
  of_equiv = ended mark.Equiv (λ (x, (l, (p, r))). Equiv x (Node (Equivalence p) l r) ∷ []) (word (Declares AnEquivalence) & inside InEquivalence (group LeftFunction & (probability & group RightFunction))) (at_first (word (Declares AnEquivalence)) (inside InEquivalence (group LeftFunction & (probability & group RightFunction))) (a_word AnEquivalence) refl) (λ x. refl)

  of_query : Names query_decl ids_of
  unfolding quiet
  of_query = ended mark.QueryWord (λ t. Query t ∷ []) (inside InQuery (either secrecy correspondence)) (quietly (inside InQuery (either secrecy correspondence)) refl) (λ x. refl)

  -- the choice among them, from the last on

  abbrev from_equiv : Phrase (List Declaration)
  from_equiv = either equiv_decl query_decl

  of_from_equiv : Names from_equiv ids_of
  of_from_equiv = one_of equiv_decl query_decl of_equiv of_query

  abbrev from_collision : Phrase (List Declaration)
  from_collision = either collision_decl from_equiv

  of_from_collision : Names from_collision ids_of
  of_from_collision = one_of collision_decl from_equiv of_collision of_from_equiv

  abbrev from_equation : Phrase (List Declaration)
  from_equation = either equation_decl from_collision

  of_from_equation : Names from_equation ids_of
  of_from_equation = one_of equation_decl from_collision of_equation of_from_collision

  abbrev from_event : Phrase (List Declaration)
  from_event = either event_decl from_equation

  of_from_event : Names from_event ids_of
  of_from_event = one_of event_decl from_equation of_event of_from_equation

  abbrev from_fun : Phrase (List Declaration)
  from_fun = either fun_decl from_event

  of_from_fun : Names from_fun ids_of
  of_from_fun = one_of fun_decl from_event of_fun of_from_event

  abbrev from_const : Phrase (List Declaration)
  from_const = either const_decl from_fun

  of_from_const : Names from_const ids_of
  of_from_const = one_of const_decl from_fun of_const of_from_fun

  abbrev from_type : Phrase (List Declaration)
  from_type = either type_decl from_const

  of_from_type : Names from_type ids_of
  of_from_type = one_of type_decl from_const of_type of_from_const

  abbrev from_proba : Phrase (List Declaration)
  from_proba = either proba_decl from_type

  of_from_proba : Names from_proba ids_of
  of_from_proba = one_of proba_decl from_type of_proba of_from_type

  abbrev from_channel : Phrase (List Declaration)
  from_channel = either channel_decl from_proba

  of_from_channel : Names from_channel ids_of
  of_from_channel = one_of channel_decl from_proba of_channel of_from_proba

  abbrev from_param : Phrase (List Declaration)
  from_param = either param_decl from_channel

  of_from_param : Names from_param ids_of
  of_from_param = one_of param_decl from_channel of_param of_from_channel

  of_declaration : Names declaration ids_of
  of_declaration = of_from_param

  joined_ids : (l : List (List Declaration)) → flat_map ids_of l ≡ ids_of (flat_map (λ d. d) l)
  joined_ids [] = refl
  joined_ids (ds ∷ l) = ap (λ k. ids_of ds ++ k) (joined_ids l) ∙ sym (both_ids ds (flat_map (λ d. d) l))
    where
      both_ids : (xs ys : List Declaration) → ids_of (xs ++ ys) ≡ ids_of xs ++ ids_of ys
      both_ids [] ys = refl
      both_ids (x ∷ xs) ys = ap (λ k. id_of x ++ k) (both_ids xs ys) ∙ sym (append_assoc (id_of x) (ids_of xs) (ids_of ys))

  of_file : Names file (λ f. ids_of f.decls)
  unfolding quiet
  of_file =
      turned (λ (ds, (s, t)). record { decls = flat_map (λ d. d) ds; script = s; game = t }) (many false declaration & (may false (mark.Proof ▸ proof_block) & (mark.Process ▸ inside InProcess inputs))) (λ f. ids_of f.decls)
      (at_first (many false declaration) (may false (mark.Proof ▸ proof_block) & (mark.Process ▸ inside InProcess inputs)) (several false declaration of_declaration) refl) (λ x. joined_ids x.0)

pub declared_names : (n : ℕ) (ts : List Sign) (f : File) (us : Uses) → IsFile n ts f us [] → declared_in us ≡ ids_of f.decls
declared_names n ts f us d = of_file n ts f us [] d

-- no name is declared twice

is_split : (r : Role) (x : ℕ) (l before : List ℕ) (y : ℕ) (behind : List ℕ) → declared_as r x ++ l ≡ before ++ y ∷ behind → ((before ≡ []) × (a : Asked) × (r ≡ Declares a) × (x ≡ y)) ⊎ ((rest : List ℕ) × (before ≡ declared_as r x ++ rest) × (l ≡ rest ++ y ∷ behind))
is_split (Declares a) x l [] y behind e = inl (refl, a, refl, cc)
is_split (Declares a) x l (z ∷ before) y behind e = let i : z ≡ x = cc in inr (before, ap (λ n. n ∷ before) i, cc)
is_split r x l before y behind e = inr (before, refl, e)

-- the use that declares a name
pub record Declaring (us : Uses) (before : List ℕ) (x : ℕ) : Type 0 where
  pub front : Uses
  pub said : Use Role
  pub back : Uses
  pub asked : Asked
  pub split : us ≡ front ++ said ∷ back
  pub earlier : declared_in front ≡ before
  pub role : said.role ≡ Declares asked
  pub name : said.name ≡ x

found_use : (us : Uses) (before : List ℕ) (x : ℕ) (behind : List ℕ) → declared_in us ≡ before ++ x ∷ behind → Declaring us before x
found_use [] [] x behind e = absurd (cc)
found_use [] (y ∷ before) x behind e = absurd (cc)
found_use (u ∷ us) before x behind e = elim (is_split u.role u.name (declared_in us) before x behind e) [
  | inl f ↦ record { front = []; said = u; back = us; asked = f.1; split = refl; earlier = sym f.0; role = f.2; name = f.3 }
  | inr f ↦
      let d = found_use us f.0 x behind f.2 in
      record { front = u ∷ d.front; said = d.said; back = d.back; asked = d.asked; split = ap (λ l. u ∷ l) d.split; earlier = ap (λ l. declared_by u ++ l) d.earlier ∙ sym f.1; role = d.role; name = d.name }
]

one_among : (r : Role) (x y : ℕ) (l : List ℕ) (b : Bool) → b ≡ is_among l y → ((declares r && (x == y)) || b) ≡ is_among (declared_as r x ++ l) y
one_among (Declares a) x y l b e = ap (λ c. (x == y) || c) e
one_among r x y l b e = e

pub among : (us : Uses) (y : ℕ) → is_used declares y us ≡ is_among (declared_in us) y
among [] y = refl
among (u ∷ us) y = one_among u.role u.name y (declared_in us) (is_used declares y us) (among us y)

not_true : (a b : Bool) → (not a && b) ≡ true → a ≡ false
not_true false b e = refl
not_true true b e = absurd (cc)

obeyed : (front back : Uses) (a : Asked) (r : Role) (x : ℕ) → r ≡ Declares a → obeys front r x back ≡ true → is_used declares x front ≡ false
obeyed front back a r x e h = not_true (is_declared front x) _ (subst (λ q. obeys front q x back ≡ true) e h)

pub names_are_distinct : (us : Uses) → AreNamed us → AreDistinct (declared_in us)
names_are_distinct us w before x behind e =
    let d = found_use us before x behind e in
    let o = obeyed d.front d.back d.asked d.said.role d.said.name d.role (w d.front d.said d.back d.split) in
    subst (λ n. is_among before n ≡ false) d.name (subst (λ l. is_among l d.said.name ≡ false) d.earlier (sym (among d.front d.said.name) ∙ o))

pub ids_are_distinct : (ts : List Sign) (ds : List Declaration) (s : Option (ℕ × ℕ)) (g : Tree) → IsRead ts ds s g → AreDistinct (0 ∷ ids_of ds)
ids_are_distinct ts ds s g w =
    let f : File = record { decls = ds; script = s; game = w.text } in
    subst AreDistinct (ap (λ l. 0 ∷ l) (declared_names levels ts f w.uses w.spelled)) (names_are_distinct (built_in ∷ w.uses) w.named)
