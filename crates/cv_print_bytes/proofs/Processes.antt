-- The text of processes has their signs.
use Rattle.std.proofs.Common.{◌≡◌, ℕ, ◌+◌, ◌^◌, nat_lt, true, false, List, [], ◌++◌, length, refl, codes, decimal}
use Rattle.cv_parse_notation.specs.declared.sign.Mark.TheVariants as mark
use Rattle.cv_parse_notation.specs.declared.sign.Sign.{Sign}
use Rattle.cv_print.specs.Games.{channel_text, arguments_text, indices_text, cells_text, step_text, branch_line, process_text, bodies_text, branches_text, branch_text}
use Rattle.cv_print_bytes.specs.terminals.Signs.{one, entries_signs, channel_signs, arguments_signs, cells_signs, step_signs, guard_signs, find_signs, process_signs, bodies_signs, branches_signs, branch_signs}
use Rattle.cv_syntax_trees.specs.Tree.{Tree, Empty, Node, first as first_of, second as second_of}
use Rattle.cv_syntax_trees.specs.declared.head.Head.{Head}
use Rattle.cv_syntax_trees.specs.declared.head.Head.TheVariants.{Stop, Yield, Par, Repl, In, Out, Event, New, Let, If, Find}
use Rattle.cv_print_bytes.specs.Known.{AreNames, head_is_named, is_named}
use Rattle.cv_print_bytes.proofs.Fronts.{Front, nothing, none, first, ◌and◌, ◌last◌}
use Rattle.cv_print_bytes.proofs.Lines.{of_line, of_open_line, of_bar, if_any, of_binder, of_entries, of_names}
use Rattle.cv_print_bytes.proofs.Literals.{equals, colon_space, at_most, semicolon, bang, input, output, comma_opening, two_closing, event_space, new_space, let_space, if_space, space_in, space_then, such_that, defined_opening, closing_both, find_at}
use Rattle.cv_print_bytes.proofs.Named.{parted, first_named, second_named, all_names, head_is_fit, is_fit, fits}
use Rattle.cv_print_bytes.proofs.Terms.{of_term, of_terms}
use Rattle.cv_print_bytes.proofs.Tokens.{word, name, number, zero_number, space, opening, closing, opening_square, closing_square}

module _ {names : List (List ℕ)} (are : AreNames names) where
  of_channel : (c : ℕ) (t : Tree) → nat_lt c (length names) ≡ true → all_names t ≡ true → is_named (length names) t ≡ true → Front names false true (channel_text names c t) (channel_signs c t)
  of_channel c t here fit k = first (name are c here) last if_any t (first opening_square and of_names are nothing t fit k last closing_square)

  of_arguments : (t : Tree) → is_named (length names) t ≡ true → Front names true true (arguments_text names t) (arguments_signs t)
  of_arguments t k = if_any t (first opening and of_terms are nothing t k last closing)

  of_indices : (t : Tree) → is_named (length names) t ≡ true → Front names true true (indices_text names t) (entries_signs (one mark.AtMost) [] t)
  unfolding entries_signs
  of_indices Empty k = none
  of_indices (Node h a b) k = first space last of_entries are at_most nothing (Node h a b) k

  of_cells : (t : Tree) → is_named (length names) t ≡ true → Front names false false (cells_text names t) (cells_signs t)
  of_cells t k = if_any t (first defined_opening and of_terms are nothing t k last closing_both)

  of_step : (level : ℕ) (h : Head) (a : Tree) → head_is_named (length names) h ≡ true → head_is_fit h a ≡ true → is_named (length names) a ≡ true → Front names false false (step_text names level h a) (step_signs h a)
  of_step level Stop a here fit k = of_line level zero_number
  of_step level Yield a here fit k = of_line level (word mark.Yield refl refl)
  of_step level (In c) a here fit k = of_line level (first input and of_channel c (first_of a) here fit (first_named (length names) a k) and comma_opening and of_entries are colon_space nothing (second_of a) (second_named (length names) a k) last two_closing)
  of_step level (Out c) a here fit k = of_line level (first output and of_channel c (first_of a) here fit (first_named (length names) a k) and comma_opening and of_terms are nothing (second_of a) (second_named (length names) a k) last two_closing)
  of_step level (Event e) a here fit k = of_line level (first event_space and name are e here and of_arguments a k last semicolon)
  of_step level (New x T) a here fit k = of_line level (first new_space and of_binder are colon_space x T here last semicolon)
  of_step level (Let x T) a here fit k = of_line level (first let_space and of_binder are colon_space x T here and equals and of_term are a k last space_in)
  of_step level h a here fit k = nothing

  of_branch_line : {before : List ℕ} {s : List Sign} (level : ℕ) → Front names false true before s → (indices cells term : Tree) → is_named (length names) indices ≡ true → is_named (length names) cells ≡ true → is_named (length names) term ≡ true → Front names false false (branch_line names level before indices cells term) (guard_signs s indices cells term)
  of_branch_line level f i c t ki kc kt = of_line level (first f and of_indices i ki and such_that and of_cells c kc and of_term are t kt last space_then)

  of_find : (l : ℕ) → nat_lt l (2 ^ 64) ≡ true → Front names false true (codes "find @" ++ decimal l) (find_signs l)
  of_find l k = first find_at last number l k

  mutual
    unfolding process_text process_signs

    pub of_process : (level : ℕ) (t : Tree) → is_named (length names) t ≡ true → is_fit t ≡ true → Front names false false (process_text names level t) (process_signs t)
    of_process level Empty k f = nothing
    of_process level (Node Par a b) k f =
        let p = parted (length names) Par a b k in
        let g = fits Par a b f in
        first (of_line level opening) and of_process (level + 1) a p.left g.left and of_bar level and of_process (level + 1) b p.right g.right last of_line level closing
    of_process level (Node (Repl i n) a b) k f =
        let p = parted (length names) (Repl i n) a b k in
        let g = fits (Repl i n) a b f in
        first (of_line level (first bang last of_binder are at_most i n p.here)) last of_process (level + 1) b p.right g.right
    of_process level (Node If a b) k f =
        let p = parted (length names) If a b k in
        let g = fits If a b f in
        of_open_line level (first if_space and of_term are a p.left and space_then) last of_bodies level nothing b p.right g.right
    of_process level (Node (Find l) a b) k f =
        let p = parted (length names) (Find l) a b k in
        let g = fits (Find l) a b f in
        first (of_branches level (of_find l p.here) a p.left g.left) and of_line level (word mark.Else refl refl) last of_process (level + 1) b p.right g.right
    of_process level (Node h a b) k f =
        let p = parted (length names) h a b k in
        let g = fits h a b f in
        first (of_step level h a p.here g.here p.left) last of_process level b p.right g.right

    of_bodies : {before : List ℕ} {s : List Sign} (level : ℕ) → Front names false false before s → (t : Tree) → is_named (length names) t ≡ true → is_fit t ≡ true → Front names false false (bodies_text names level before t) (bodies_signs s t)
    of_bodies level w Empty k f = nothing
    of_bodies level w (Node h a b) k f =
        let p = parted (length names) h a b k in
        let g = fits h a b f in
        first w and of_process (level + 1) a p.left g.left last of_bodies level (of_line level (word mark.Else refl refl)) b p.right g.right

    of_branches : {before : List ℕ} {s : List Sign} (level : ℕ) → Front names false true before s → (t : Tree) → is_named (length names) t ≡ true → is_fit t ≡ true → Front names false false (branches_text names level before t) (branches_signs s t)
    of_branches level w Empty k f = nothing
    of_branches level w (Node h a b) k f =
        let p = parted (length names) h a b k in
        let g = fits h a b f in
        first (of_branch level w a p.left g.left) last of_branches level (word mark.Orfind refl refl) b p.right g.right

    of_branch : {before : List ℕ} {s : List Sign} (level : ℕ) → Front names false true before s → (t : Tree) → is_named (length names) t ≡ true → is_fit t ≡ true → Front names false false (branch_text names level before t) (branch_signs s t)
    of_branch level w (Node h indices (Node i cells (Node j term body))) k f =
        let p = parted (length names) h indices (Node i cells (Node j term body)) k in
        let q = parted (length names) i cells (Node j term body) p.right in
        let r = parted (length names) j term body q.right in
        let g = fits j term body (fits i cells (Node j term body) (fits h indices (Node i cells (Node j term body)) f).right).right in
        first (of_branch_line level w indices cells term p.left q.left r.left) last of_process (level + 1) body r.right g.right
    of_branch level w t k f = nothing
