-- Lists of names, of binders and of cells are spelled by their signs.
use Rattle.std.proofs.Common.{◌≡◌, ℕ, zero, suc, ◌≤◌, Bool, true, false, List, [], ◌∷◌, ◌++◌, refl, ap, sym, subst, ◌∙◌}
use Rattle.std.proofs.lemmas.Bool.{both_ways}
use Rattle.cv_syntax_trees.specs.declared.head.Head.{Head}
use Rattle.cv_syntax_trees.specs.declared.head.Head.TheVariants.{Binder, Cons, Leaf, Name, Read}
use Rattle.cv_syntax_trees.specs.Tree.{Tree, Empty, Node, binders, chain, names}
use Rattle.cv_parse_notation.specs.declared.sign.Mark.TheVariants as mark
use Rattle.cv_parse_notation.specs.Form.{made, many, deeper, ◌&◌, ◌▸◌}
use Rattle.cv_parse_notation.specs.Form as form
use Rattle.cv_parse_notation.specs.Spells.{Kind}
use Rattle.cv_parse_grammar.specs.declared.role.Asked.TheVariants.{AParam}
use Rattle.cv_parse_grammar.specs.declared.role.Role.{Role}
use Rattle.cv_parse_grammar.specs.declared.role.Role.TheVariants.{Asks, AsksIndex, BindsVariable, MentionsCell}
use Rattle.cv_parse_grammar.specs.Marks.{plain, plain_cell}
use Rattle.cv_parse_grammar.proofs.Marks.{plain_cell_in_files, subscript_row}
use Rattle.cv_parse_grammar.specs.Phrases.{Phrase, indices, listed, row, typed, type_name, vars}
use Rattle.cv_parse_grammar.specs.Phrases as sort
use Rattle.cv_parse_grammar.specs.Processes.{channel, variables}
use Rattle.cv_parse_grammar.specs.Terms.{cell, cells}
use Rattle.cv_scope_rules.specs.Phrases.{Nil, Indices, Binders, Cells, OneCell, Terms, is_phrase}
use Rattle.cv_print_bytes.specs.terminals.Levels.{term_levels, terms_levels}
use Rattle.cv_print_bytes.specs.terminals.Told.{Piece, shown, type_word, entry_told, entries_told, names_told, variables_told, indices_told, cell_told, cells_told, terms_told, channel_told}
use Rattle.cv_print_bytes.specs.terminals.Told as told
use Rattle.cv_print_bytes.specs.terminals.Written.{IsWritten, has_items, has_parameters}
use Rattle.cv_print_bytes.proofs.terminals.Phrases.{both_below, deep, nil_is, no_phrase, parted}
use Rattle.cv_print_bytes.proofs.terminals.Spelling.{Spelled, SpelledBy, a_sign, a_word, behind, bracketed, by_told, by_word, down, down_by, free, is_absent, is_there, leveled, never, no_more, one_more_of, one_way, other_way, pair, squared, turned}
use Rattle.cv_print_bytes.proofs.terminals.Terms.{leaf_by, list_is_by, some_items, unary_by}

-- a type

pub type_is : {n : ℕ} {stop : Kind → Bool} (T : ℕ) → Spelled n type_name (type_word T) T stop
type_is zero = one_way (turned a_sign refl)
type_is (suc T) = other_way (by_told (by_word refl)) a_word

pub typed_is : {n : ℕ} {stop : Kind → Bool} (x T : ℕ) → Spelled n (typed BindsVariable) (told.word BindsVariable (suc x) ++ (shown mark.Colon ++ type_word T)) (suc x, T) stop
typed_is x T = pair a_word free (behind (type_is T))

-- what is between commas

module _ {A : Type 0} (n : ℕ) (r : Role) (between : List Piece) (bound : ℕ → List Piece) (f : Phrase A) (make : List A → Tree) (stop : Kind → Bool) where
  -- the entries behind the first
  record More (t : Tree) : Type 0 where
    items : List A
    are : make items ≡ t
    spelled : Spelled n (many false (mark.Comma ▸ f)) (entries_told r between bound (shown mark.Comma) t) items stop

  none_more : make [] ≡ Empty → More Empty
  unfolding entries_told
  none_more e = record { items = []; are = e; spelled = no_more }

  one_more : (h : Head) (a : A) (b : Tree) → ((l : List A) → make (a ∷ l) ≡ Node h Empty (make l)) → Spelled n f (entry_told r between bound h) a never → More b → More (Node h Empty b)
  unfolding entries_told
  one_more h a b e p q = record { items = a ∷ q.items; are = e q.items ∙ ap (Node h Empty) q.are; spelled = one_more_of (behind p) free q.spelled }

  entries_are : (h : Head) (a : A) (b : Tree) → ((l : List A) → make (a ∷ l) ≡ Node h Empty (make l)) → Spelled n f (entry_told r between bound h) a never → More b → Spelled n (made make (row mark.Comma f)) (entries_told r between bound [] (Node h Empty b)) (Node h Empty b) stop
  unfolding entries_told
  entries_are h a b e p q = turned (turned (pair p free q.spelled) refl) (e q.items ∙ ap (Node h Empty) q.are)

-- the first child of an entry is none
pub entry : (h : Head) (P : Tree → Type 0) (a b : Tree) → IsWritten Nil a → P (Node h Empty b) → P (Node h a b)
entry h P a b w p = subst (λ c. P (Node h c b)) (sym (nil_is a w)) p

module _ (n : ℕ) (stop : Kind → Bool) where
  -- names of indices

  abbrev MoreNames : Tree → Type 0
  MoreNames t = More n AsksIndex [] (told.word AsksIndex) (form.word AsksIndex) names stop t

  more_names : (t : Tree) → IsWritten Indices t → MoreNames t
  unfolding is_phrase
  more_names Empty w = none_more n AsksIndex [] (told.word AsksIndex) (form.word AsksIndex) names stop refl
  more_names (Node (Name zero) a b) w = absurd (both_ways _ refl (parted Indices Nil Indices (Name zero) a b refl w).here)
  more_names (Node (Name (suc x)) a b) w =
      let p = parted Indices Nil Indices (Name (suc x)) a b refl w in
      entry (Name (suc x)) MoreNames a b p.first (one_more n AsksIndex [] (told.word AsksIndex) (form.word AsksIndex) names stop (Name (suc x)) (suc x) b (λ l. refl) a_word (more_names b p.second))
  more_names t w = absurd (no_phrase Indices t refl w)

  abbrev NamesAt : Tree → Type 0
  NamesAt t = Spelled n (made names (row mark.Comma (form.word AsksIndex))) (names_told t) t stop

  names_are : (t : Tree) → IsWritten Indices t → has_items t ≡ true → NamesAt t
  unfolding is_phrase
  names_are (Node (Name zero) a b) w e = absurd (both_ways _ refl (parted Indices Nil Indices (Name zero) a b refl w).here)
  names_are (Node (Name (suc x)) a b) w e =
      let p = parted Indices Nil Indices (Name (suc x)) a b refl w in
      entry (Name (suc x)) NamesAt a b p.first (entries_are n AsksIndex [] (told.word AsksIndex) (form.word AsksIndex) names stop (Name (suc x)) (suc x) b (λ l. refl) a_word (more_names b p.second))
  names_are Empty w e = absurd (both_ways _ refl e)
  names_are t w e = absurd (no_phrase Indices t refl w)

  -- variables with their types

  abbrev MoreVariables : Tree → Type 0
  MoreVariables t = More n BindsVariable (shown mark.Colon) type_word (typed BindsVariable) binders stop t

  more_variables : (t : Tree) → IsWritten Binders t → MoreVariables t
  unfolding is_phrase
  more_variables Empty w = none_more n BindsVariable (shown mark.Colon) type_word (typed BindsVariable) binders stop refl
  more_variables (Node (Binder zero T) a b) w = absurd (both_ways _ refl (parted Binders Nil Binders (Binder zero T) a b refl w).here)
  more_variables (Node (Binder (suc x) T) a b) w =
      let p = parted Binders Nil Binders (Binder (suc x) T) a b refl w in
      entry (Binder (suc x) T) MoreVariables a b p.first (one_more n BindsVariable (shown mark.Colon) type_word (typed BindsVariable) binders stop (Binder (suc x) T) (suc x, T) b (λ l. refl) (typed_is x T) (more_variables b p.second))
  more_variables t w = absurd (no_phrase Binders t refl w)

  abbrev VariablesAt : Tree → Type 0
  VariablesAt t = Spelled n (listed (vars BindsVariable)) (variables_told t) t stop

  variables_listed : (t : Tree) → IsWritten Binders t → VariablesAt t
  unfolding is_phrase entries_told
  variables_listed Empty w = turned is_absent refl
  variables_listed (Node (Binder zero T) a b) w = absurd (both_ways _ refl (parted Binders Nil Binders (Binder zero T) a b refl w).here)
  variables_listed (Node (Binder (suc x) T) a b) w =
      let p = parted Binders Nil Binders (Binder (suc x) T) a b refl w in
      entry (Binder (suc x) T) VariablesAt a b p.first (turned (is_there (entries_are n BindsVariable (shown mark.Colon) type_word (typed BindsVariable) binders stop (Binder (suc x) T) (suc x, T) b (λ l. refl) (typed_is x T) (more_variables b p.second))) refl)
  variables_listed t w = absurd (no_phrase Binders t refl w)

  -- indices with their parameters

  abbrev bounded : Phrase (ℕ × ℕ)
  bounded = form.word BindsVariable & (mark.AtMost ▸ form.word (Asks AParam))

  bounded_is : (x m : ℕ) → Spelled n bounded (told.word BindsVariable (suc x) ++ (shown mark.AtMost ++ told.word (Asks AParam) (suc m))) (suc x, suc m) never
  bounded_is x m = pair a_word free (behind a_word)

  abbrev MoreBounded : Tree → Type 0
  MoreBounded t = More n BindsVariable (shown mark.AtMost) (told.word (Asks AParam)) bounded binders stop t

  more_bounded : (t : Tree) → IsWritten Binders t → has_parameters t ≡ true → MoreBounded t
  unfolding is_phrase has_parameters
  more_bounded Empty w e = none_more n BindsVariable (shown mark.AtMost) (told.word (Asks AParam)) bounded binders stop refl
  more_bounded (Node (Binder zero m) a b) w e = absurd (both_ways _ refl (parted Binders Nil Binders (Binder zero m) a b refl w).here)
  more_bounded (Node (Binder (suc x) zero) a b) w e = absurd (both_ways _ refl e)
  more_bounded (Node (Binder (suc x) (suc m)) a b) w e =
      let p = parted Binders Nil Binders (Binder (suc x) (suc m)) a b refl w in
      entry (Binder (suc x) (suc m)) MoreBounded a b p.first (one_more n BindsVariable (shown mark.AtMost) (told.word (Asks AParam)) bounded binders stop (Binder (suc x) (suc m)) (suc x, suc m) b (λ l. refl) (bounded_is x m) (more_bounded b p.second e))
  more_bounded t w e = absurd (no_phrase Binders t refl w)

  abbrev BoundedAt : Tree → Type 0
  BoundedAt t = Spelled n (listed (indices BindsVariable (Asks AParam))) (indices_told t) t stop

  pub indices_listed : (t : Tree) → IsWritten Binders t → has_parameters t ≡ true → BoundedAt t
  unfolding is_phrase has_parameters entries_told
  indices_listed Empty w e = turned is_absent refl
  indices_listed (Node (Binder zero m) a b) w e = absurd (both_ways _ refl (parted Binders Nil Binders (Binder zero m) a b refl w).here)
  indices_listed (Node (Binder (suc x) zero) a b) w e = absurd (both_ways _ refl e)
  indices_listed (Node (Binder (suc x) (suc m)) a b) w e =
      let p = parted Binders Nil Binders (Binder (suc x) (suc m)) a b refl w in
      entry (Binder (suc x) (suc m)) BoundedAt a b p.first (turned (is_there (entries_are n BindsVariable (shown mark.AtMost) (told.word (Asks AParam)) bounded binders stop (Binder (suc x) (suc m)) (suc x, suc m) b (λ l. refl) (bounded_is x m) (more_bounded b p.second e))) refl)
  indices_listed t w e = absurd (no_phrase Binders t refl w)

-- what an input binds, in parentheses
pub variables_are : {n : ℕ} {stop : Kind → Bool} (t : Tree) → IsWritten Binders t → Spelled n variables (shown mark.Open ++ (variables_told t ++ shown mark.Close)) t stop
variables_are {n = n} t w = bracketed (variables_listed n never t w) refl

-- a channel at indices
pub channel_is : {n : ℕ} {stop : Kind → Bool} (c : ℕ) (t : Tree) → IsWritten Indices t → Spelled (suc n) channel (channel_told (suc c) t) (suc c, t) stop
channel_is c Empty w = pair a_word free (turned is_absent refl)
channel_is {n = n} c (Node h a b) w = pair a_word free (turned (is_there (down (squared (names_are n never (Node h a b) w refl) refl))) refl)

-- cells

-- the cell stands where one is asked for, in files or where names may have marks

abbrev pub CellAtBy : (marks : Bool) → ℕ → Tree → Type 0
CellAtBy marks n t = (stop : Kind → Bool) → SpelledBy marks n cell (cell_told t) t stop

abbrev pub CellAt : ℕ → Tree → Type 0
CellAt n t = CellAtBy false n t

pub cell_is_by : (marks : Bool) (t : Tree) → IsWritten OneCell (plain_cell marks t) → (n : ℕ) → term_levels t ≤ n → CellAtBy marks n t
unfolding is_phrase term_levels
cell_is_by marks (Node (Leaf zero) a b) w n l stop = absurd (both_ways _ refl (parted OneCell Nil Nil (Leaf zero) (plain marks a) (plain marks b) refl w).here)
cell_is_by marks (Node (Leaf (suc x)) a b) w n l stop =
    let p = parted OneCell Nil Nil (Leaf (suc x)) (plain marks a) (plain marks b) refl w in
    leaf_by marks (Leaf (suc x)) (λ t. SpelledBy marks n cell (told.word MentionsCell (suc x)) t stop) a b p.first p.second (leveled (turned (pair a_word free is_absent) refl))
cell_is_by marks (Node (Read zero) a b) w n l stop = absurd (both_ways _ refl (parted OneCell Terms Nil (Read zero) (plain marks a) (plain marks b) refl w).here)
cell_is_by marks (Node (Read (suc x)) a b) w n l stop =
    let p = parted OneCell Terms Nil (Read (suc x)) (plain marks a) (plain marks b) refl w in
    deep (λ m. SpelledBy marks m cell (cell_told (Node (Read (suc x)) a b)) (Node (Read (suc x)) a b) stop) n (terms_levels a) l (λ m k.
    unary_by marks (Read (suc x)) (λ t. SpelledBy marks (suc m) cell (cell_told (Node (Read (suc x)) a b)) t stop) a b p.second (leveled (turned (pair a_word free (is_there (down_by (subscript_row marks) (squared (list_is_by marks a p.first (some_items marks a p.here) m k) refl)))) refl))
    )
cell_is_by marks t w n l stop = absurd (both_ways _ refl w.phrase)

pub cell_is : (t : Tree) → IsWritten OneCell t → (n : ℕ) → term_levels t ≤ n → CellAt n t
cell_is t w n l = cell_is_by false t (subst (IsWritten OneCell) (sym (plain_cell_in_files t)) w) n l

record MoreCells (n : ℕ) (t : Tree) : Type 0 where
  items : List Tree
  are : chain items ≡ t
  spelled : Spelled n (many false (mark.Comma ▸ deeper sort.OneCell)) (cells_told (shown mark.Comma) t) items never

more_cells : (t : Tree) → IsWritten Cells t → (n : ℕ) → terms_levels t ≤ n → MoreCells n t
unfolding is_phrase terms_levels cells_told
more_cells Empty w n l = record { items = []; are = refl; spelled = no_more }
more_cells (Node Cons a b) w n l =
    let p = parted Cells OneCell Cells Cons a b refl w in
    let k = both_below (suc (term_levels a)) (terms_levels b) n l in
    deep (λ m. MoreCells m b → MoreCells m (Node Cons a b)) n (term_levels a) k.0 (λ m i q.
    record { items = a ∷ q.items; are = ap (Node Cons a) q.are; spelled = one_more_of (behind (down (cell_is a p.first m i never))) free q.spelled }
    ) (more_cells b p.second n k.1)
more_cells t w n l = absurd (no_phrase Cells t refl w)

-- cells in parentheses
pub cells_are : {stop : Kind → Bool} (t : Tree) → IsWritten Cells t → has_items t ≡ true → (n : ℕ) → terms_levels t ≤ n → Spelled n cells (shown mark.Open ++ (cells_told [] t ++ shown mark.Close)) t stop
unfolding is_phrase terms_levels cells_told
cells_are {stop = stop} (Node Cons a b) w e n l =
    let p = parted Cells OneCell Cells Cons a b refl w in
    let k = both_below (suc (term_levels a)) (terms_levels b) n l in
    deep (λ m. MoreCells m b → Spelled m cells (shown mark.Open ++ (cells_told [] (Node Cons a b) ++ shown mark.Close)) (Node Cons a b) stop) n (term_levels a) k.0 (λ m i q.
    bracketed (turned (turned (pair (down (cell_is a p.first m i never)) free q.spelled) refl) (ap (Node Cons a) q.are)) refl
    ) (more_cells b p.second n k.1)
cells_are Empty w e n l = absurd (both_ways _ refl e)
cells_are t w e n l = absurd (no_phrase Cells t refl w)
