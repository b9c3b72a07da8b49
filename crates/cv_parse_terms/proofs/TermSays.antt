-- The rows of terms read what the forms of the grammar read.
use Rattle.std.proofs.Common.{◌≡◌, ℕ, zero, suc, ◌+◌, ◌<◌, Bool, true, false, List, [], ◌∷◌, ◌++◌, refl, ap, sym, ◌∙◌, lit<, append_assoc, Option, Some, None}
use Rattle.cv_syntax_trees.specs.Tree.{Tree, Empty, Node, lone, chain, binders}
use Rattle.cv_syntax_trees.specs.declared.head.Head.{Head}
use Rattle.cv_syntax_trees.specs.declared.head.Head.TheVariants as head
use Rattle.cv_syntax.specs.Postorder.{postorder}
use Rattle.cv_syntax.specs.declared.make.Make.{Make}
use Rattle.cv_syntax.specs.declared.make.Make.TheVariants.{Nothing, Over}
use Rattle.cv_parse_notation.specs.declared.sign.Mark.{Mark}
use Rattle.cv_parse_notation.specs.declared.sign.Mark.TheVariants as mark
use Rattle.cv_parse_notation.specs.Spells.{Kind, starts}
use Rattle.cv_parse_notation.specs.Form.{sign, may, made, level, deeper, ◌&◌, ◌▸◌}
use Rattle.cv_parse_grammar.specs.declared.role.Asked.TheVariants.{AType}
use Rattle.cv_parse_grammar.specs.declared.role.Role.{Role}
use Rattle.cv_parse_grammar.specs.declared.role.Role.TheVariants.{Asks, Mentions, AsCall, AsArray, AsBare, MentionsCell, BindsLocal, BindsVariable}
use Rattle.cv_parse_grammar.specs.Marks.{alone_of, bare_name, conjunction_of, equality_of, mention_of, primary_of, rule_of, term_of}
use Rattle.cv_parse_grammar.specs.Phrases.{Sort, Phrase, Term, Conjunction, Primary, Unequal, Arguments, Subscript, Parentheses, Cells, OneCell, or_else, listed, type_name, typed, vars, var_list}
use Rattle.cv_parse_grammar.specs.Rules.{heads, rule}
use Rattle.cv_parse_grammar.specs.Terms.{yes, terms, arguments, subscript, parentheses, called, indexed, negation, unequal, unequal_to, cell_of, cell, cells, defined_condition, plain_condition, condition}
use Rattle.cv_parse_terms.specs.declared.piece.Ahead.{Ahead}
use Rattle.cv_parse_terms.specs.declared.piece.Ahead.TheVariants as ahead
use Rattle.cv_parse_terms.specs.declared.piece.Naming.TheVariants as naming
use Rattle.cv_parse_terms.specs.declared.piece.Closing.TheVariants as closing
use Rattle.cv_parse_terms.specs.declared.piece.Piece.{Piece}
use Rattle.cv_parse_terms.specs.declared.piece.Piece.TheVariants as piece
use Rattle.cv_parse_terms.specs.Gives.{parts_of_both, read_by}
use Rattle.cv_parse_terms.specs.Tables.{Parts, Work, begins, changed, last_name, made_no_part, named, other_names, part, put, waits}
use Rattle.cv_parse_terms.specs.TermRows.{row_count, row_in_table, row_of, rows_of_terms}
use Rattle.cv_parse_grammar.proofs.Marks.{arguments_row, cell_row, cells_row, conjunction_row, parentheses_row, primary_row, subscript_row, term_row, unequal_row}
use Rattle.cv_parse_terms.proofs.Levels.{below_is as sort_below}
use Rattle.cv_parse_terms.proofs.Walks.{row_law}
use Rattle.cv_parse_terms.proofs.Saying.{AllTailsBy, IsBelow, IsBelowBy, Says, SaysBy, adds, after_says, between, binders_close, both_says, both_wait, chain_closes, deeper_says, either_may_says, either_says, either_tails, grows, head_behind, item_waits, joins, level_says, list_says, made_says, marked_head, marked_says, made_tails, may_says, maybe_joins, none_below, note_says, part_before, part_behind, row_says, same_says, sign_before, sign_says, value_behind, word_says}

-- the phrases one level down
pub record DeepBy (marks : Bool) (n : ℕ) : Type 0 where
  pub term : IsBelowBy marks n ahead.Term 37 Term grows
  pub conjunction : IsBelowBy marks n ahead.Term 34 Conjunction grows
  pub primary : IsBelowBy marks n ahead.Term 24 Primary grows
  pub unequal : IsBelowBy marks n (ahead.Mark mark.Differ) 26 Unequal grows
  pub arguments : IsBelowBy marks n (ahead.Mark mark.Open) 4 Arguments grows
  pub subscript : IsBelowBy marks n (ahead.Mark mark.OpenSquare) 6 Subscript grows
  pub parentheses : IsBelowBy marks n (ahead.Mark mark.Open) 8 Parentheses grows
  pub cells : IsBelowBy marks n (ahead.Mark mark.Open) 44 Cells grows
  pub cell : IsBelowBy marks n ahead.Word 41 OneCell grows

abbrev pub Deep : ℕ → Type 0
Deep n = DeepBy false n

-- parts of nodes

pub three : (m a : List Make) (x y : Make) → ((m ++ a) ++ x ∷ []) ++ y ∷ [] ≡ m ++ (a ++ (x ∷ (y ∷ [])))
three m a x y = append_assoc (m ++ a) (x ∷ []) (y ∷ []) ∙ append_assoc m a (x ∷ (y ∷ []))

pub with_makes : (q : Parts) (l k : List Make) → l ≡ k → (let p : Parts = record { names = q.names; makes = l } in p) ≡ record { names = q.names; makes = k }
with_makes q l k e = ap (λ x. let p : Parts = record { names = q.names; makes = x } in p) e

pub closes_node : (h : Head) (t : Tree) (q : Parts) → part (Over h) (part Nothing (grows t q)) ≡ grows (Node h t Empty) q
unfolding postorder
closes_node h t q = with_makes q _ _ (three q.makes (postorder t) Nothing (Over h))

pub closes_leaf : (h : Head) (q : Parts) → part (Over h) (part Nothing (part Nothing q)) ≡ grows (lone h) q
unfolding postorder
closes_leaf h q = with_makes q _ _ (three q.makes (Nothing ∷ []) Nothing (Over h))

-- what follows a name, which waits
abbrev behind : (ℕ → Tree) → Parts → Parts
behind f q = record { names = other_names q.names; makes = q.makes ++ postorder (f (last_name q.names)) }

abbrev behind_cell : Option Tree → Parts → Parts
behind_cell o q = record { names = other_names q.names; makes = q.makes ++ postorder (cell_of (last_name q.names) o) }

closes_apply : (t : Tree) (q : Parts) → named naming.Apply (part Nothing (grows t q)) ≡ behind (λ f. Node (head.Apply f) t Empty) q
unfolding postorder
closes_apply t q = ap (λ x. let p : Parts = record { names = other_names q.names; makes = x } in p) (three q.makes (postorder t) Nothing (Over (head.Apply (last_name q.names))))

closes_read : (t : Tree) (q : Parts) → named naming.Read (part Nothing (grows t q)) ≡ behind (λ x. Node (head.Read x) t Empty) q
unfolding postorder
closes_read t q = ap (λ x. let p : Parts = record { names = other_names q.names; makes = x } in p) (three q.makes (postorder t) Nothing (Over (head.Read (last_name q.names))))

closes_name : (q : Parts) → named naming.Leaf (part Nothing (part Nothing q)) ≡ behind (λ x. lone (head.Leaf x)) q
unfolding postorder
closes_name q = ap (λ x. let p : Parts = record { names = other_names q.names; makes = x } in p) (three q.makes (Nothing ∷ []) Nothing (Over (head.Leaf (last_name q.names))))

closes_primed : (q : Parts) → named naming.Primed (part Nothing (part Nothing q)) ≡ behind (λ x. lone (head.Primed x)) q
unfolding postorder
closes_primed q = ap (λ x. let p : Parts = record { names = other_names q.names; makes = x } in p) (three q.makes (Nothing ∷ []) Nothing (Over (head.Primed (last_name q.names))))

closes_bare : (o : Option (Unit {0})) (q : Parts) → named (marked_head naming.Primed naming.Leaf o) (part Nothing (part Nothing q)) ≡ behind (λ x. bare_name x o) q
closes_bare None q = closes_name q
closes_bare (Some u) q = closes_primed q

-- lists of terms

pub says_inner : {marks : Bool} (n : ℕ) → DeepBy marks n → SaysBy marks n 1 (row_in_table marks 1) (deeper Term) grows
says_inner n d = deeper_says 1 ahead.Term 37 d.term

pub says_terms : {marks : Bool} (n : ℕ) → DeepBy marks n → SaysBy marks n 2 (row_in_table marks 2) terms grows
says_terms n d = list_says 2 closing.Trees mark.Comma 1 chain (lit< tt) chain_closes (says_inner n d)

pub says_arguments : {marks : Bool} (n : ℕ) → DeepBy marks n → SaysBy marks n 4 (row_in_table marks 4) arguments grows
says_arguments n d = level_says 4 (ahead.Mark mark.Open) 3 (lit< tt) (λ k. refl) (between mark.Open mark.Close (piece.Row 2 ∷ []) (row_says 3 2 (lit< tt) (says_terms n d)))

pub says_subscript : {marks : Bool} (n : ℕ) → DeepBy marks n → SaysBy marks n 6 (row_in_table marks 6) subscript grows
says_subscript n d = level_says 6 (ahead.Mark mark.OpenSquare) 5 (lit< tt) (λ k. refl) (between mark.OpenSquare mark.CloseSquare (piece.Row 2 ∷ []) (row_says 5 2 (lit< tt) (says_terms n d)))

says_parentheses : {marks : Bool} (n : ℕ) → DeepBy marks n → SaysBy marks n 8 (row_in_table marks 8) parentheses grows
says_parentheses n d = level_says 8 (ahead.Mark mark.Open) 7 (lit< tt) (λ k. refl) (between mark.Open mark.Close (piece.Row 1 ∷ []) (row_says 7 1 (lit< tt) (says_inner n d)))

-- names

abbrev call : List Piece
call = piece.Note AsCall ∷ (piece.Deeper (ahead.Mark mark.Open) 4 ∷ [])

abbrev index : List Piece
index = piece.Note AsArray ∷ (piece.Deeper (ahead.Mark mark.OpenSquare) 6 ∷ [])

says_called : {marks : Bool} (n : ℕ) → DeepBy marks n → SaysBy marks n 9 (row_in_table marks 9) called behind
says_called n d =
    made_says (λ (m, l) f. Node (head.Apply f) l Empty) behind
    (same_says (λ c. behind (λ f. Node (head.Apply f) c.1 Empty)) (λ c q. closes_apply c.1 q)
    (head_behind naming.Apply (call ++ piece.Part Nothing ∷ []) (part_behind Nothing call
    (both_says (piece.Note AsCall ∷ []) (piece.Deeper (ahead.Mark mark.Open) 4 ∷ []) (note_says n 9 AsCall) (deeper_says 9 (ahead.Mark mark.Open) 4 d.arguments)))))

says_indexed : {marks : Bool} (n : ℕ) → DeepBy marks n → SaysBy marks n 10 (row_in_table marks 10) indexed behind
says_indexed n d =
    made_says (λ (m, l) x. Node (head.Read x) l Empty) behind
    (same_says (λ c. behind (λ x. Node (head.Read x) c.1 Empty)) (λ c q. closes_read c.1 q)
    (head_behind naming.Read (index ++ piece.Part Nothing ∷ []) (part_behind Nothing index
    (both_says (piece.Note AsArray ∷ []) (piece.Deeper (ahead.Mark mark.OpenSquare) 6 ∷ []) (note_says n 10 AsArray) (deeper_says 10 (ahead.Mark mark.OpenSquare) 6 d.subscript)))))

abbrev bare : List Piece
bare = piece.Note AsBare ∷ []

says_alone : {marks : Bool} (n : ℕ) → SaysBy marks n 11 (row_in_table marks 11) (alone_of marks) behind
says_alone {marks = false} n =
    made_says (λ m x. lone (head.Leaf x)) behind
    (same_says (λ c. behind (λ x. lone (head.Leaf x))) (λ c q. closes_name q)
    (head_behind naming.Leaf (bare ++ (piece.Part Nothing ∷ (piece.Part Nothing ∷ []))) (part_behind Nothing (bare ++ piece.Part Nothing ∷ []) (part_behind Nothing bare (note_says n 11 AsBare)))))
says_alone {marks = true} n =
    made_says (λ (m, o) x. bare_name x o) behind
    (same_says (λ c. behind (λ x. bare_name x c.1)) (λ c q. closes_bare c.1 q)
    (both_says (bare ++ (piece.Part Nothing ∷ (piece.Part Nothing ∷ []))) (piece.Marked mark.Prime naming.Primed naming.Leaf ∷ [])
    (part_behind Nothing (bare ++ piece.Part Nothing ∷ []) (part_behind Nothing bare (note_says n 11 AsBare))) (marked_says n 11 mark.Prime naming.Primed naming.Leaf)))

says_mention : {marks : Bool} (n : ℕ) → DeepBy marks n → SaysBy marks n 14 (row_in_table marks 14) (mention_of marks) grows
says_mention n d =
    level_says 14 ahead.Word 13 (lit< tt) (λ k. refl)
    (made_says (λ (x, f). f x) grows
    (both_says (piece.Word Mentions ∷ []) (piece.Choice (ahead.Mark mark.Open) 9 12 ∷ []) (word_says n 13 Mentions)
    (either_says 13 (ahead.Mark mark.Open) 9 12 (lit< tt) (lit< tt) (λ k. refl) (says_called n d)
    (either_says 12 (ahead.Mark mark.OpenSquare) 10 11 (lit< tt) (lit< tt) (λ k. refl) (says_indexed n d) (says_alone n)))))

-- terms without operators

abbrev not_one : List Piece
not_one = piece.Sign mark.Not ∷ (piece.Deeper (ahead.Mark mark.Open) 8 ∷ [])

says_negation : {marks : Bool} (n : ℕ) → DeepBy marks n → SaysBy marks n 16 (row_in_table marks 16) negation grows
says_negation n d =
    level_says 16 (ahead.Mark mark.Not) 15 (lit< tt) (λ k. refl)
    (made_says (λ t. Node head.Not t Empty) grows
    (same_says (λ t. grows (Node head.Not t Empty)) (λ t q. closes_node head.Not t q)
    (part_behind (Over head.Not) (not_one ++ piece.Part Nothing ∷ []) (part_behind Nothing not_one
    (sign_before mark.Not (piece.Deeper (ahead.Mark mark.Open) 8 ∷ []) (deeper_says 15 (ahead.Mark mark.Open) 8 d.parentheses))))))

pub says_constant : {marks : Bool} (n b : ℕ) (m : Mark) (h : Head) → SaysBy marks n b (piece.Sign m ∷ (piece.Part Nothing ∷ (piece.Part Nothing ∷ (piece.Part (Over h) ∷ [])))) (made (λ _. lone h) (sign m)) grows
says_constant n b m h =
    made_says (λ _. lone h) grows
    (same_says (λ _. grows (lone h)) (λ _ q. closes_leaf h q)
    (part_behind (Over h) (piece.Sign m ∷ (piece.Part Nothing ∷ (piece.Part Nothing ∷ []))) (part_behind Nothing (piece.Sign m ∷ (piece.Part Nothing ∷ [])) (part_behind Nothing (piece.Sign m ∷ []) (sign_says n b m)))))

says_primary : {marks : Bool} (n : ℕ) → DeepBy marks n → SaysBy marks n 24 (row_in_table marks 24) (primary_of marks) grows
says_primary n d =
    either_says 24 ahead.Word 14 23 (lit< tt) (lit< tt) (λ k. refl) (says_mention n d)
    (either_says 23 (ahead.Mark mark.Not) 16 22 (lit< tt) (lit< tt) (λ k. refl) (says_negation n d)
    (either_says 22 (ahead.Mark mark.True) 18 21 (lit< tt) (lit< tt) (λ k. refl) (level_says 18 (ahead.Mark mark.True) 17 (lit< tt) (λ k. refl) (says_constant n 17 mark.True head.Yes))
    (either_says 21 (ahead.Mark mark.False) 20 8 (lit< tt) (lit< tt) (λ k. refl) (level_says 20 (ahead.Mark mark.False) 19 (lit< tt) (λ k. refl) (says_constant n 19 mark.False head.No)) (says_parentheses n d))))

-- operators

abbrev joined_to : Head → Tree → Tree → Tree
joined_to h r l = Node h l r

closes_tail : (h : Head) (r : Tree) (q : Parts) → part (Over h) (grows r q) ≡ joins (joined_to h r) q
unfolding postorder
closes_tail h r q = with_makes q _ _ (append_assoc q.makes (postorder r) (Over h ∷ []))

joined_tail : (h : Head) (r t : Tree) → postorder (joined_to h r t) ≡ postorder t ++ (postorder r ++ Over h ∷ [])
unfolding postorder
joined_tail h r t = refl

pub says_joining : {marks : Bool} {n : ℕ} {s : Sort} (b : ℕ) (m : Mark) (i : ℕ) (a : Ahead) (r : ℕ) (h : Head) → i < b → SaysBy marks n i (row_in_table marks i) (sign m) made_no_part → IsBelowBy marks n a r s grows → SaysBy marks n b (piece.Level (ahead.Mark m) i ∷ (piece.Deeper a r ∷ (piece.Part (Over h) ∷ []))) (made (λ (x, r) l. Node h l r) (level (sign m) & deeper s)) joins
says_joining b m i a r h l s d =
    made_says (λ (x, r) l. Node h l r) joins
    (same_says (λ c. joins (joined_to h c.1)) (λ c q. closes_tail h c.1 q)
    (part_behind (Over h) (piece.Level (ahead.Mark m) i ∷ (piece.Deeper a r ∷ []))
    (both_says (piece.Level (ahead.Mark m) i ∷ []) (piece.Deeper a r ∷ []) (level_says b (ahead.Mark m) i l (λ k. refl) s) (deeper_says b a r d))))

pub joining_tails : {marks : Bool} (n : ℕ) (m : Mark) (s : Sort) (h : Head) → AllTailsBy marks n (made (λ (x, r) l. Node h l r) (level (sign m) & deeper s))
unfolding postorder
joining_tails n m s h = made_tails (λ (x, r) l. Node h l r) (λ c t. joined_tail h c.1 t)

abbrev differs_from : Tree → Tree → Tree
differs_from r l = Node head.Not (Node head.Eq l r) Empty

differs_parts : (m a : List Make) → (((m ++ a) ++ Over head.Eq ∷ []) ++ Nothing ∷ []) ++ Over head.Not ∷ [] ≡ m ++ ((a ++ Over head.Eq ∷ []) ++ (Nothing ∷ (Over head.Not ∷ [])))
differs_parts m a =
    ap (λ x. (x ++ Nothing ∷ []) ++ Over head.Not ∷ []) (append_assoc m a (Over head.Eq ∷ []))
    ∙ three m (a ++ Over head.Eq ∷ []) Nothing (Over head.Not)

closes_differing : (r : Tree) (q : Parts) → part (Over head.Not) (part Nothing (part (Over head.Eq) (grows r q))) ≡ joins (differs_from r) q
unfolding postorder
closes_differing r q = with_makes q _ _ (differs_parts q.makes (postorder r))

differing_tail : (r t : Tree) → postorder (differs_from r t) ≡ postorder t ++ ((postorder r ++ Over head.Eq ∷ []) ++ (Nothing ∷ (Over head.Not ∷ [])))
unfolding postorder
differing_tail r t = append_assoc (postorder t) (postorder r ++ Over head.Eq ∷ []) (Nothing ∷ (Over head.Not ∷ []))

says_unequal : {marks : Bool} (n : ℕ) → DeepBy marks n → SaysBy marks n 26 (row_in_table marks 26) unequal grows
says_unequal n d = level_says 26 (ahead.Mark mark.Differ) 25 (lit< tt) (λ k. refl) (sign_before mark.Differ (piece.Deeper ahead.Term 24 ∷ []) (deeper_says 25 ahead.Term 24 d.primary))

abbrev differ : List Piece
differ = piece.Deeper (ahead.Mark mark.Differ) 26 ∷ []

says_unequal_to : {marks : Bool} (n : ℕ) → DeepBy marks n → SaysBy marks n 27 (row_in_table marks 27) unequal_to joins
says_unequal_to n d =
    made_says (λ r l. Node head.Not (Node head.Eq l r) Empty) joins
    (same_says (λ r. joins (differs_from r)) closes_differing
    (part_behind (Over head.Not) (differ ++ (piece.Part (Over head.Eq) ∷ (piece.Part Nothing ∷ []))) (part_behind Nothing (differ ++ piece.Part (Over head.Eq) ∷ []) (part_behind (Over head.Eq) differ
    (deeper_says 27 (ahead.Mark mark.Differ) 26 d.unequal)))))

unequal_tails : {marks : Bool} (n : ℕ) → AllTailsBy marks n unequal_to
unfolding postorder
unequal_tails n = made_tails (λ r l. Node head.Not (Node head.Eq l r) Empty) differing_tail

pub says_equality : {marks : Bool} (n : ℕ) → DeepBy marks n → SaysBy marks n 31 (row_in_table marks 31) (equality_of marks) grows
says_equality n d =
    after_says (piece.Row 24 ∷ []) (piece.Choice (ahead.Mark mark.Equal) 29 30 ∷ []) (row_says 31 24 (lit< tt) (says_primary n d))
    (either_may_says 31 (ahead.Mark mark.Equal) 29 30 false maybe_joins (lit< tt) (lit< tt) (λ k. refl)
    (says_joining 29 mark.Equal 28 ahead.Term 24 head.Eq (lit< tt) (sign_says n 28 mark.Equal) d.primary)
    (may_says 30 (ahead.Mark mark.Differ) 27 0 false maybe_joins (lit< tt) (lit< tt) (λ k. refl) (says_unequal_to n d) (λ w. refl)))
    (either_tails (joining_tails n mark.Equal Primary head.Eq) (unequal_tails n))

says_conjunction : {marks : Bool} (n : ℕ) → DeepBy marks n → SaysBy marks n 34 (row_in_table marks 34) (conjunction_of marks) grows
says_conjunction n d =
    after_says (piece.Row 31 ∷ []) (piece.Choice (ahead.Mark mark.Both) 33 0 ∷ []) (row_says 34 31 (lit< tt) (says_equality n d))
    (may_says 34 (ahead.Mark mark.Both) 33 0 false maybe_joins (lit< tt) (lit< tt) (λ k. refl)
    (says_joining 33 mark.Both 32 ahead.Term 34 head.And (lit< tt) (sign_says n 32 mark.Both) d.conjunction) (λ w. refl))
    (joining_tails n mark.Both Conjunction head.And)

pub says_term : {marks : Bool} (n : ℕ) → DeepBy marks n → SaysBy marks n 37 (row_in_table marks 37) (term_of marks) grows
says_term n d =
    after_says (piece.Row 34 ∷ []) (piece.Choice (ahead.Mark mark.Either) 36 0 ∷ []) (row_says 37 34 (lit< tt) (says_conjunction n d))
    (may_says 37 (ahead.Mark mark.Either) 36 0 false maybe_joins (lit< tt) (lit< tt) (λ k. refl)
    (says_joining 36 mark.Either 35 ahead.Term 37 head.Or (lit< tt) (sign_says n 35 mark.Either) d.term) (λ w. refl))
    (joining_tails n mark.Either Term head.Or)

-- cells

abbrev cell_index : List Piece
cell_index = piece.Deeper (ahead.Mark mark.OpenSquare) 6 ∷ []

says_cell_index : {marks : Bool} (n : ℕ) → DeepBy marks n → SaysBy marks n 38 (row_in_table marks 38) (deeper Subscript) (λ l. behind_cell (Some l))
says_cell_index n d =
    same_says (λ l. behind_cell (Some l)) closes_read
    (head_behind naming.Read (cell_index ++ piece.Part Nothing ∷ []) (part_behind Nothing cell_index (deeper_says 38 (ahead.Mark mark.OpenSquare) 6 d.subscript)))

pub changed_same : (c e : Parts → Parts) (w : Work) → c w.parts ≡ e w.parts → changed c w ≡ changed e w
changed_same c e w h = ap (λ q. changed (λ p. q) w) h

pub says_cell : {marks : Bool} (n : ℕ) → DeepBy marks n → SaysBy marks n 41 (row_in_table marks 41) cell grows
says_cell n d =
    level_says 41 ahead.Word 40 (lit< tt) (λ k. refl)
    (made_says (λ (x, l). cell_of x l) grows
    (both_says (piece.Word MentionsCell ∷ []) (piece.Choice (ahead.Mark mark.OpenSquare) 38 39 ∷ []) (word_says n 40 MentionsCell)
    (may_says 40 (ahead.Mark mark.OpenSquare) 38 39 false behind_cell (lit< tt) (lit< tt) (λ k. refl) (says_cell_index n d)
    (λ w. changed_same (λ q. named naming.Leaf (part Nothing (part Nothing q))) (behind_cell None) w (closes_name w.parts)))))

pub says_inner_cell : {marks : Bool} (n : ℕ) → DeepBy marks n → SaysBy marks n 42 (row_in_table marks 42) (deeper OneCell) grows
says_inner_cell n d = deeper_says 42 ahead.Word 41 d.cell

says_cells : {marks : Bool} (n : ℕ) → DeepBy marks n → SaysBy marks n 44 (row_in_table marks 44) cells grows
says_cells n d =
    level_says 44 (ahead.Mark mark.Open) 43 (lit< tt) (λ k. refl)
    (between mark.Open mark.Close (piece.List closing.Trees mark.Comma 42 ∷ []) (list_says 43 closing.Trees mark.Comma 42 chain (lit< tt) chain_closes (says_inner_cell n d)))

-- conditions

abbrev pub both_trees : Tree × Tree → Parts → Parts
both_trees p = adds (parts_of_both p)

two_trees : (c : Tree × Tree) (q : Parts) → grows c.1 (grows c.0 q) ≡ both_trees c q
two_trees c q = with_makes q _ _ (append_assoc q.makes (postorder c.0) (postorder c.1))

no_cells : (t : Tree) (q : Parts) → grows t (part Nothing q) ≡ both_trees (Empty, t) q
unfolding postorder
no_cells t q = with_makes q _ _ (append_assoc q.makes (Nothing ∷ []) (postorder t))

says_holding : {marks : Bool} (n : ℕ) → DeepBy marks n → SaysBy marks n 46 (row_in_table marks 46) (mark.Both ▸ deeper Term) grows
says_holding n d = sign_before mark.Both (piece.Row 1 ∷ []) (row_says 46 1 (lit< tt) (says_inner n d))

says_defined : {marks : Bool} (n : ℕ) → DeepBy marks n → SaysBy marks n 48 (row_in_table marks 48) defined_condition both_trees
says_defined n d =
    sign_before mark.Defined (piece.Row 45 ∷ (piece.Choice (ahead.Mark mark.Both) 46 47 ∷ []))
    (same_says both_trees two_trees
    (both_says (piece.Row 45 ∷ []) (piece.Choice (ahead.Mark mark.Both) 46 47 ∷ []) (row_says 48 45 (lit< tt) (deeper_says 45 (ahead.Mark mark.Open) 44 d.cells))
    (made_says (or_else yes) grows
    (may_says 48 (ahead.Mark mark.Both) 46 47 false (λ o. grows (or_else yes o)) (lit< tt) (lit< tt) (λ k. refl) (says_holding n d)
    (λ w. changed_same (λ q. part (Over head.Yes) (part Nothing (part Nothing q))) (grows yes) w (closes_leaf head.Yes w.parts))))))

says_plain : {marks : Bool} (n : ℕ) → DeepBy marks n → SaysBy marks n 49 (row_in_table marks 49) plain_condition both_trees
says_plain n d =
    made_says (λ t. (Empty, t)) both_trees
    (same_says (λ t. both_trees (Empty, t)) no_cells (part_before Nothing (piece.Row 1 ∷ []) (row_says 49 1 (lit< tt) (says_inner n d))))

pub says_condition : {marks : Bool} (n : ℕ) → DeepBy marks n → SaysBy marks n 50 (row_in_table marks 50) condition both_trees
says_condition n d = either_says 50 (ahead.Mark mark.Defined) 48 49 (lit< tt) (lit< tt) (λ k. refl) (says_defined n d) (says_plain n d)

-- lists of terms that may be empty, or have one term

pub says_one : {marks : Bool} (n : ℕ) → DeepBy marks n → SaysBy marks n 53 (row_in_table marks 53) (made (λ t. chain (t ∷ [])) (deeper Term)) grows
says_one n d =
    made_says (λ t. chain (t ∷ [])) grows
    (same_says (λ t. grows (chain (t ∷ []))) (λ t q. closes_node head.Cons t q)
    (part_behind (Over head.Cons) (piece.Row 1 ∷ (piece.Part Nothing ∷ [])) (part_behind Nothing (piece.Row 1 ∷ []) (row_says 53 1 (lit< tt) (says_inner n d)))))

pub no_list : (w : Work) → changed (part Nothing) w ≡ changed (grows Empty) w
unfolding postorder
no_list w = refl

pub says_maybe_terms : {marks : Bool} (n : ℕ) → DeepBy marks n → SaysBy marks n 55 (row_in_table marks 55) (listed terms) grows
says_maybe_terms n d =
    made_says (or_else Empty) grows
    (may_says 55 ahead.Term 2 54 false (λ o. grows (or_else Empty o)) (lit< tt) (lit< tt) (λ k. refl) (says_terms n d) no_list)

-- types and variables

pub says_type : {marks : Bool} (n : ℕ) → SaysBy marks n 58 (row_in_table marks 58) type_name waits
says_type n =
    either_says 58 (ahead.Mark mark.Bool) 56 57 (lit< tt) (lit< tt) (λ k. refl)
    (made_says (λ _. 0) waits (value_behind 0 (piece.Sign mark.Bool ∷ []) (sign_says n 56 mark.Bool))) (word_says n 57 (Asks AType))

pub says_typed : {marks : Bool} (n b : ℕ) (r : Role) → 58 < b → SaysBy marks n b (piece.Word r ∷ (piece.Sign mark.Colon ∷ (piece.Row 58 ∷ []))) (typed r) both_wait
says_typed n b r h =
    both_says (piece.Word r ∷ []) (piece.Sign mark.Colon ∷ (piece.Row 58 ∷ [])) (word_says n b r) (sign_before mark.Colon (piece.Row 58 ∷ []) (row_says b 58 h (says_type n)))

pub says_variable : {marks : Bool} (n : ℕ) → SaysBy marks n 59 (row_in_table marks 59) (typed BindsVariable) both_wait
says_variable n = says_typed n 59 BindsVariable (lit< tt)

pub says_local : {marks : Bool} (n : ℕ) → SaysBy marks n 60 (row_in_table marks 60) (typed BindsLocal) both_wait
says_local n = says_typed n 60 BindsLocal (lit< tt)

-- a phrase, or the empty list

pub says_listed : {marks : Bool} {n : ℕ} {f : Phrase Tree} (b : ℕ) (a : Ahead) (r : ℕ) → r < b → 54 < b → ((k : Kind) → begins a k ≡ starts heads f k) → SaysBy marks n r (row_in_table marks r) f grows → SaysBy marks n b (piece.Choice a r 54 ∷ []) (listed f) grows
says_listed b a r h i k s = made_says (or_else Empty) grows (may_says b a r 54 false (λ o. grows (or_else Empty o)) h i k s no_list)

-- variables of a function

says_local_item : {marks : Bool} (n : ℕ) → SaysBy marks n 146 (row_in_table marks 146) (typed BindsLocal) item_waits
says_local_item n = part_behind Nothing (piece.Row 60 ∷ []) (row_says 146 60 (lit< tt) (says_local n))

pub says_local_vars : {marks : Bool} (n : ℕ) → SaysBy marks n 147 (row_in_table marks 147) (vars BindsLocal) grows
says_local_vars n = list_says 147 closing.Binders mark.Comma 146 binders (lit< tt) binders_close (says_local_item n)

pub says_local_list : {marks : Bool} (n : ℕ) → SaysBy marks n 149 (row_in_table marks 149) (var_list BindsLocal) grows
says_local_list n =
    level_says 149 (ahead.Mark mark.Open) 148 (lit< tt) (λ k. refl)
    (between mark.Open mark.Close (piece.Choice ahead.Word 147 54 ∷ []) (says_listed 148 ahead.Word 147 (lit< tt) (lit< tt) (λ k. refl) (says_local_vars n)))

-- by the levels that are left

pub one_below_by : {marks : Bool} {f : Phrase Tree} {e : Tree → Parts → Parts} (n : ℕ) (a : Ahead) (r : ℕ) (s : Sort) → rule_of marks s ≡ f → r < row_count → SaysBy marks n r (row_in_table marks r) f e → IsBelowBy marks (suc n) a r s e
one_below_by {marks = marks} {e = e} n a r s i h x = record {
  law = λ w.
      row_law (rows_of_terms marks) n row_count r w h
      ∙ (x.law w ∙ ap (put e w) (ap (λ g. read_by (rule_of marks) n g w.rest) (sym i) ∙ sym (sort_below (rule_of marks) (suc n) n s w.rest refl)));
}

pub one_below : {e : Tree → Parts → Parts} (n : ℕ) (a : Ahead) (r : ℕ) (s : Sort) → r < row_count → Says n r (row_of r) (rule s) e → IsBelow (suc n) a r s e
one_below n a r s h x = one_below_by n a r s refl h x

pub deep : {marks : Bool} (n : ℕ) → DeepBy marks n
deep {marks = marks} zero = record {
  term = none_below ahead.Term 37 Term grows (λ k. refl);
  conjunction = none_below ahead.Term 34 Conjunction grows (λ k. refl);
  primary = none_below ahead.Term 24 Primary grows (λ k. refl);
  unequal = none_below (ahead.Mark mark.Differ) 26 Unequal grows (λ k. refl);
  arguments = none_below (ahead.Mark mark.Open) 4 Arguments grows (λ k. refl);
  subscript = none_below (ahead.Mark mark.OpenSquare) 6 Subscript grows (λ k. refl);
  parentheses = none_below (ahead.Mark mark.Open) 8 Parentheses grows (λ k. refl);
  cells = none_below (ahead.Mark mark.Open) 44 Cells grows (λ k. refl);
  cell = none_below ahead.Word 41 OneCell grows (λ k. refl);
}
deep {marks = marks} (suc n) =
    let d : DeepBy marks n = deep n in
    record {
      term = one_below_by n ahead.Term 37 Term (term_row marks) (lit< tt) (says_term n d);
      conjunction = one_below_by n ahead.Term 34 Conjunction (conjunction_row marks) (lit< tt) (says_conjunction n d);
      primary = one_below_by n ahead.Term 24 Primary (primary_row marks) (lit< tt) (says_primary n d);
      unequal = one_below_by n (ahead.Mark mark.Differ) 26 Unequal (unequal_row marks) (lit< tt) (says_unequal n d);
      arguments = one_below_by n (ahead.Mark mark.Open) 4 Arguments (arguments_row marks) (lit< tt) (says_arguments n d);
      subscript = one_below_by n (ahead.Mark mark.OpenSquare) 6 Subscript (subscript_row marks) (lit< tt) (says_subscript n d);
      parentheses = one_below_by n (ahead.Mark mark.Open) 8 Parentheses (parentheses_row marks) (lit< tt) (says_parentheses n d);
      cells = one_below_by n (ahead.Mark mark.Open) 44 Cells (cells_row marks) (lit< tt) (says_cells n d);
      cell = one_below_by n ahead.Word 41 OneCell (cell_row marks) (lit< tt) (says_cell n d);
    }
