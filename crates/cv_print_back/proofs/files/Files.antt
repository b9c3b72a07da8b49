-- What a file says: what it declares, and a process that stands for the uses of names in it.
use Rattle.std.proofs.Common.{◌≡◌, ◌⊎◌, ℕ, Bool, true, false, ◌&&◌, ◌||◌, ◌==◌, if◌then◌else◌, List, [], ◌∷◌, ◌++◌, append-nil, Option, Some, None, inl, inr, refl, ap, subst}
use Rattle.std.proofs.lemmas.Bool.{or_left, or_right}
use Rattle.cv_syntax_trees.specs.declared.head.Head.{Head}
use Rattle.cv_syntax_trees.specs.declared.head.Head.TheVariants.{New, Let, Binder}
use Rattle.cv_syntax_trees.specs.Tree.{Tree, Empty, Node}
use Rattle.cv_parse_notation.specs.declared.sign.Sign.{Sign}
use Rattle.cv_parse_grammar.specs.declared.role.Region.TheVariants.{InProcess}
use Rattle.cv_parse_grammar.specs.declared.role.Role.{Role}
use Rattle.cv_parse_grammar.specs.declared.role.Role.TheVariants.{BindsVariable, Enters, Leaves}
use Rattle.cv_parse_grammar.specs.Filled.{defines, first_site, under}
use Rattle.cv_parse_grammar.specs.Files.{IsFile, levels}
use Rattle.cv_parse_grammar.specs.Identities.{is_among}
use Rattle.cv_parse_grammar.specs.Names.{Uses, binds_variable, is_used}
use Rattle.cv_parse_grammar.specs.Phrases.{Phrase, Sort}
use Rattle.cv_parse_grammar.specs.Rules.{File, file, rule}
use Rattle.cv_print_back.proofs.files.Declaring.{Declares_all, IsOutside, Outside, SameDeclared, Undeclaring, declarations_outside, of_declarations, outside_rows, process_undeclaring, script_outside, script_undeclaring, undeclaring_rows}
use Rattle.cv_print_back.proofs.files.Passing.{variable_of, variables_in}
use Rattle.cv_print_back.proofs.files.ProcessTales.{IsProcess}
use Rattle.cv_print_back.proofs.files.Rows.{StandsAt, of_inputs, rows_stand}
use Rattle.cv_print_back.proofs.files.Saying.{Makes, Run, Says, Word, a_note, behind, follow, forms_tell, made_of_less, says_less, turned}
use Rattle.cv_print_back.proofs.files.Tales.{defined_by, definitions}
use Rattle.cv_syntax_trees.specs.lists.Options.{first_of}

-- a variable with a first definition is among those that are defined

head_keeps : (h : Head) (x : ℕ) (l : List ℕ) → is_among l x ≡ true → is_among (defined_by h l) x ≡ true
head_keeps (New y T) x l e = or_right (y == x) (is_among l x) e
head_keeps (Let y T) x l e = or_right (y == x) (is_among l x) e
head_keeps (Binder y T) x l e = or_right (y == x) (is_among l x) e
head_keeps h x l e = e

definitions_keep : (t : Tree) (x : ℕ) (l : List ℕ) → is_among l x ≡ true → is_among (definitions t l) x ≡ true
unfolding definitions
definitions_keep Empty x l e = e
definitions_keep (Node h a b) x l e = head_keeps h x (definitions a (definitions b l)) (definitions_keep a x (definitions b l) (definitions_keep b x l e))

head_defines : (h : Head) (x : ℕ) (l : List ℕ) → defines h x ≡ true → is_among (defined_by h l) x ≡ true
head_defines (New y T) x l e = or_left (y == x) (is_among l x) e
head_defines (Let y T) x l e = or_left (y == x) (is_among l x) e
head_defines (Binder y T) x l e = or_left (y == x) (is_among l x) e
head_defines h x l e = absurd (cc)

one_of_two : (o p : Option ℕ) (j : ℕ) → first_of o p ≡ Some j → (o ≡ Some j) ⊎ (p ≡ Some j)
one_of_two (Some i) p j e = inl e
one_of_two None p j e = inr e

site_at_node : (h : Head) (x k j : ℕ) (o p : Option ℕ) (l : List ℕ) (c : Bool) → defines h x ≡ c → (o ≡ Some j → is_among l x ≡ true) → (p ≡ Some j → is_among l x ≡ true) → (if c then Some k else first_of o p) ≡ Some j → is_among (defined_by h l) x ≡ true
site_at_node h x k j o p l true d f g e = head_defines h x l d
site_at_node h x k j o p l false d f g e = head_keeps h x l (elim (one_of_two o p j e) [ inl i ↦ f i | inr i ↦ g i ])

pub site_is_defined : (t : Tree) (x k j : ℕ) (l : List ℕ) → first_site x k t ≡ Some j → is_among (definitions t l) x ≡ true
unfolding first_site definitions
site_is_defined Empty x k j l e = absurd (cc)
site_is_defined (Node h a b) x k j l e =
    site_at_node h x k j (first_site x k a) (first_site x (under h k) b) (definitions a (definitions b l)) (defines h x) refl
    (λ i. site_is_defined a x k j (definitions b l) i)
    (λ i. definitions_keep a x (definitions b l) (site_is_defined b x (under h k) j l i)) e

-- the variables among uses are those that are bound there

one_variable : (r : Role) (x y : ℕ) (l : List ℕ) (b : Bool) → b ≡ is_among l y → ((binds_variable r && (x == y)) || b) ≡ is_among (variable_of r x l) y
one_variable BindsVariable x y l b e = ap (λ c. (x == y) || c) e
one_variable r x y l b e = e

pub variables_are : (us : Uses) (y : ℕ) → is_used binds_variable y us ≡ is_among (variables_in us) y
variables_are [] y = refl
variables_are (u ∷ us) y = one_variable u.role u.name y (variables_in us) (is_used binds_variable y us) (variables_are us y)

-- what a file says, part by part
pub record FileSays (all : Uses) (sites : ℕ → Option ℕ) (f : File) (us vs : Uses) : Type 0 where
  pub from_script : Uses
  pub from_process : Uses
  pub from_game : Uses
  pub from_end : Uses
  pub declarations_bind : IsOutside us from_script
  pub declares : Declares_all f.decls us from_script
  pub script_binds : IsOutside from_script from_process
  pub script_declares : SameDeclared from_script from_process
  pub enters : Word (Enters InProcess) 0 from_process from_game
  pub game : IsProcess all sites f.game from_game from_end
  pub game_declares : SameDeclared from_game from_end
  pub leaves : Word Leaves 0 from_end vs

both_made : {A : Type 0} {P : Sort → Run Tree} {f : Phrase A} {Q R : Run A} → Makes P f Q → Makes P f R → Makes P f (λ a us vs. Q a us vs × R a us vs)
both_made i j = record { gives = λ a us vs y. (i.gives a us vs y, j.gives a us vs y) }

module _ (all : Uses) (sites : ℕ → Option ℕ) (sited : (x k : ℕ) → sites x ≡ Some k → is_used binds_variable x all ≡ true) where
  -- all that is known of the phrases of a sort
  abbrev Known : Sort → Run Tree
  Known s t us vs = StandsAt all sites sited s t us vs × Outside s t us vs × Undeclaring s t us vs

  known_rows : (s : Sort) (t : Tree) (us vs : Uses) → Says Known (rule s) t us vs → Known s t us vs
  known_rows s t us vs y = (
    rows_stand all sites sited s t us vs (says_less Known (StandsAt all sites sited) (λ _ _ _ _ w. w.0) (rule s) t us vs y),
    outside_rows s t us vs (says_less Known Outside (λ _ _ _ _ w. w.1) (rule s) t us vs y),
    undeclaring_rows s t us vs (says_less Known Undeclaring (λ _ _ _ _ w. w.2) (rule s) t us vs y),
  )

  to_stand : (s : Sort) (t : Tree) (us vs : Uses) → Known s t us vs → StandsAt all sites sited s t us vs
  to_stand s t us vs w = w.0

  to_outside : (s : Sort) (t : Tree) (us vs : Uses) → Known s t us vs → Outside s t us vs
  to_outside s t us vs w = w.1

  to_undeclaring : (s : Sort) (t : Tree) (us vs : Uses) → Known s t us vs → Undeclaring s t us vs
  to_undeclaring s t us vs w = w.2

  -- a process between the notes of its beginning and end
  record IsInside (t : Tree) (us vs : Uses) : Type 0 where
    from : Uses
    to : Uses
    enters : Word (Enters InProcess) 0 us from
    is : IsProcess all sites t from to
    declares : SameDeclared from to
    leaves : Word Leaves 0 to vs

  of_file : Makes Known file (FileSays all sites)
  of_file =
      turned (follow (both_made (made_of_less to_outside declarations_outside) (made_of_less to_undeclaring of_declarations))
      (follow (both_made (made_of_less to_outside script_outside) (made_of_less to_undeclaring script_undeclaring))
      (behind (turned {q = IsInside} (follow a_note (follow (both_made (made_of_less to_stand (of_inputs all sites sited)) (made_of_less to_undeclaring process_undeclaring)) a_note)) (λ x us vs w. record { from = w.0; to = w.2.0; enters = w.1; is = w.2.1.0; declares = w.2.1.1; leaves = w.2.2 }))))) (λ x us vs w.
      let g = w.2.2 in
      record {
        from_script = w.0;
        from_process = w.2.0;
        from_game = g.from;
        from_end = g.to;
        declarations_bind = w.1.0;
        declares = w.1.1;
        script_binds = w.2.1.0;
        script_declares = w.2.1.1;
        enters = g.enters;
        game = g.is;
        game_declares = g.declares;
        leaves = g.leaves;
      }
      )

  pub file_says : (ts : List Sign) (f : File) (uses : Uses) → IsFile levels ts f uses [] → FileSays all sites f uses []
  file_says ts f uses d = subst (λ us. FileSays all sites f us []) (append-nil uses) (of_file.gives f (uses ++ []) [] (forms_tell Known known_rows file levels ts f uses [] d []))
