-- The tokens of a text with what is told about names are its signs.
use Rattle.std.proofs.Common.{◌≡◌, ℕ, zero, suc, List, [], ◌∷◌, ◌++◌, refl, ap, ◌∙◌}
use Rattle.cv_syntax_trees.specs.declared.head.Head.{Head}
use Rattle.cv_syntax_trees.specs.declared.head.Head.TheVariants.{Stop, Yield, Par, Repl, In, Out, Event, New, Let, If, Find, Leaf, Primed, Read, Apply, Eq, And, Or, Not, Yes, No, Binder, Name}
use Rattle.cv_syntax_trees.specs.Tree.{Tree, Empty, Node, first, second}
use Rattle.cv_parse_notation.specs.declared.sign.Mark.{Mark}
use Rattle.cv_parse_notation.specs.declared.sign.Mark.TheVariants as mark
use Rattle.cv_parse_notation.specs.declared.sign.Sign.{Sign}
use Rattle.cv_parse_notation.specs.declared.sign.Sign.TheVariants as token
use Rattle.cv_parse_grammar.specs.declared.role.Asked.TheVariants.{AParam}
use Rattle.cv_parse_grammar.specs.declared.role.Role.{Role}
use Rattle.cv_parse_grammar.specs.declared.role.Role.TheVariants.{Asks, AsksIndex, BindsVariable}
use Rattle.cv_print_bytes.specs.terminals.Signs.{one, named, entry_signs, entries_signs, term_signs, terms_signs, step_signs, process_signs, unless_empty, channel_signs, guard_signs, find_signs, bodies_signs, branches_signs, branch_signs}
use Rattle.cv_print_bytes.specs.terminals.Told.{Piece, Shown, Told, signs_in, shown, type_word, word, entry_told, entries_told, names_told, variables_told, indices_told, term_told, terms_told, cell_told, cells_told, told_unless_empty, channel_told, step_told, guard_told, find_told, process_told, bodies_told, branches_told, branch_told}
use Rattle.cv_print_bytes.proofs.terminals.Pieces.{signs_append}

-- the pieces have these tokens
pub record Shows (ps : List Piece) (l : List Sign) : Type 0 where
  pub same : signs_in ps ≡ l

pub nothing : Shows [] []
unfolding signs_in
nothing = record { same = refl }

pub symbol : {m : Mark} → Shows (shown m) (one m)
unfolding signs_in
symbol = record { same = refl }

name : {r : Role} {x : ℕ} → Shows (word r x) (named x)
unfolding signs_in
name = record { same = refl }

number : {n : ℕ} → Shows (Shown (token.Number n) ∷ []) (token.Number n ∷ [])
unfolding signs_in
number = record { same = refl }

type_name : (T : ℕ) → Shows (type_word T) (named T)
unfolding signs_in
type_name zero = symbol
type_name (suc T) = name

-- one list behind another
infixr 30 ◌and◌
pub ◌and◌ : {ps qs : List Piece} {l m : List Sign} → Shows ps l → Shows qs m → Shows (ps ++ qs) (l ++ m)
◌and◌ {ps = ps} {qs = qs} {l = l} p q = record { same = signs_append ps qs ∙ (ap (λ x. x ++ signs_in qs) p.same ∙ ap (λ x. l ++ x) q.same) }

told_before : {ps : List Piece} {l : List Sign} {r : Role} {x : ℕ} → Shows ps l → Shows (Told r x ∷ ps) l
unfolding signs_in
told_before p = record { same = p.same }

if_any : {ps : List Piece} {l : List Sign} (t : Tree) → Shows ps l → Shows (told_unless_empty t ps) (unless_empty t l)
if_any Empty p = nothing
if_any (Node h a b) p = p

-- lists of names and binders

module _ (r : Role) (between : List Piece) (bound : ℕ → List Piece) (signs : List Sign) (same : Shows between signs) (second : (T : ℕ) → Shows (bound T) (named T)) where
  entry : (h : Head) → Shows (entry_told r between bound h) (entry_signs signs h)
  entry (Name x) = name
  entry (Binder x T) = name and same and second T
  entry h = nothing

  entries : {ps : List Piece} {l : List Sign} → Shows ps l → (t : Tree) → Shows (entries_told r between bound ps t) (entries_signs signs l t)
  unfolding entries_told entries_signs
  entries p Empty = nothing
  entries p (Node h a b) = p and entry h and entries symbol b

of_names : (t : Tree) → Shows (names_told t) (entries_signs [] [] t)
of_names t = entries AsksIndex [] (word AsksIndex) [] nothing (λ T. name) nothing t

of_variables : (t : Tree) → Shows (variables_told t) (entries_signs (one mark.Colon) [] t)
of_variables t = entries BindsVariable (shown mark.Colon) type_word (one mark.Colon) symbol type_name nothing t

of_indices : (t : Tree) → Shows (indices_told t) (entries_signs (one mark.AtMost) [] t)
of_indices t = entries BindsVariable (shown mark.AtMost) (word (Asks AParam)) (one mark.AtMost) symbol (λ T. name) nothing t

-- terms

mutual
  unfolding term_told term_signs

  pub of_term : (t : Tree) → Shows (term_told t) (term_signs t)
  of_term (Node (Leaf x) a b) = name and told_before nothing
  of_term (Node (Primed x) a b) = name and told_before symbol
  of_term (Node (Read x) a b) = name and told_before (symbol and of_terms nothing a and symbol)
  of_term (Node (Apply f) a b) = name and told_before (symbol and of_terms nothing a and symbol)
  of_term (Node Eq a b) = symbol and of_term a and symbol and of_term b and symbol
  of_term (Node And a b) = symbol and of_term a and symbol and of_term b and symbol
  of_term (Node Or a b) = symbol and of_term a and symbol and of_term b and symbol
  of_term (Node Not a b) = symbol and symbol and of_term a and symbol
  of_term (Node Yes a b) = symbol
  of_term (Node No a b) = symbol
  of_term t = nothing

  pub of_terms : {ps : List Piece} {l : List Sign} → Shows ps l → (t : Tree) → Shows (terms_told ps t) (terms_signs l t)
  of_terms p Empty = nothing
  of_terms p (Node h a b) = p and of_term a and of_terms symbol b

pub of_cell : (t : Tree) → Shows (cell_told t) (term_signs t)
unfolding term_told term_signs
of_cell (Node (Leaf x) a b) = name
of_cell (Node (Read x) a b) = name and symbol and of_terms nothing a and symbol
of_cell t = of_term t

of_cells : {ps : List Piece} {l : List Sign} → Shows ps l → (t : Tree) → Shows (cells_told ps t) (terms_signs l t)
unfolding cells_told terms_signs
of_cells p Empty = nothing
of_cells p (Node h a b) = p and of_cell a and of_cells symbol b

-- processes

of_channel : (c : ℕ) (t : Tree) → Shows (channel_told c t) (channel_signs c t)
of_channel c t = name and if_any t (symbol and of_names t and symbol)

of_step : (h : Head) (a : Tree) → Shows (step_told h a) (step_signs h a)
of_step Stop a = number
of_step Yield a = symbol
of_step (In c) a = symbol and symbol and of_channel c (first a) and symbol and symbol and of_variables (second a) and symbol and symbol and symbol
of_step (Out c) a = symbol and symbol and of_channel c (first a) and symbol and symbol and of_terms nothing (second a) and symbol and symbol and symbol
of_step (Event e) a = symbol and name and if_any a (symbol and of_terms nothing a and symbol) and symbol
of_step (New x T) a = symbol and name and symbol and type_name T and symbol
of_step (Let x T) a = symbol and name and symbol and type_name T and symbol and of_term a and symbol
of_step h a = nothing

of_guard : {ps : List Piece} {l : List Sign} → Shows ps l → (indices cells term : Tree) → Shows (guard_told ps indices cells term) (guard_signs l indices cells term)
of_guard p i c t = p and of_indices i and symbol and if_any c (symbol and symbol and of_cells nothing c and symbol and symbol) and of_term t and symbol

of_find : (l : ℕ) → Shows (find_told l) (find_signs l)
unfolding signs_in
of_find l = record { same = refl }

mutual
  unfolding process_told process_signs

  pub of_process : (t : Tree) → Shows (process_told t) (process_signs t)
  of_process Empty = nothing
  of_process (Node Par a b) = symbol and of_process a and symbol and of_process b and symbol
  of_process (Node (Repl i n) a b) = symbol and name and symbol and name and of_process b
  of_process (Node If a b) = symbol and of_term a and symbol and of_bodies nothing b
  of_process (Node (Find l) a b) = of_branches (of_find l) a and symbol and of_process b
  of_process (Node h a b) = of_step h a and of_process b

  of_bodies : {ps : List Piece} {l : List Sign} → Shows ps l → (t : Tree) → Shows (bodies_told ps t) (bodies_signs l t)
  of_bodies p Empty = nothing
  of_bodies p (Node h a b) = p and of_process a and of_bodies symbol b

  of_branches : {ps : List Piece} {l : List Sign} → Shows ps l → (t : Tree) → Shows (branches_told ps t) (branches_signs l t)
  of_branches p Empty = nothing
  of_branches p (Node h a b) = of_branch p a and of_branches symbol b

  of_branch : {ps : List Piece} {l : List Sign} → Shows ps l → (t : Tree) → Shows (branch_told ps t) (branch_signs l t)
  of_branch p (Node h i (Node j c (Node k m b))) = of_guard p i c m and of_process b
  of_branch p t = nothing
