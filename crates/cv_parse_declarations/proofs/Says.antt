-- The rows of equivalences read what the forms of the grammar read.
use Rattle.std.proofs.Common.{◌≡◌, ℕ, zero, suc, ◌+◌, ◌<◌, false, List, [], ◌∷◌, ◌++◌, refl, ap, sym, ◌∙◌, lit<, append_assoc, Option, Some, None}
use Rattle.std.proofs.lemmas.List.{replicate_more}
use Rattle.std.specs.Prelude.{replicate}
use Rattle.cv_syntax_trees.specs.Tree.{Tree, Empty, Node, first, second, chain, binders}
use Rattle.cv_syntax_trees.specs.declared.head.Head.{Head}
use Rattle.cv_syntax_trees.specs.declared.head.Head.TheVariants.{Bound, Cons, Equivalence, New}
use Rattle.cv_syntax.specs.Postorder.{postorder}
use Rattle.cv_syntax.specs.declared.make.Make.{Make}
use Rattle.cv_syntax.specs.declared.make.Make.TheVariants.{Nothing, Over}
use Rattle.cv_parse_notation.specs.declared.sign.Mark.TheVariants as mark
use Rattle.cv_parse_notation.specs.Form.{word, may, deeper, ◌&◌, ◌▸◌, ◌◂◌}
use Rattle.cv_parse_grammar.specs.declared.role.Asked.TheVariants.{AnEquivalence, AProbability}
use Rattle.cv_parse_grammar.specs.declared.role.Region.TheVariants.{InEquivalence}
use Rattle.cv_parse_grammar.specs.declared.role.Role.TheVariants.{Asks, BindsBound, BindsLocal, Declares, Enters, Leaves}
use Rattle.cv_parse_grammar.specs.Phrases.{Sort, LeftFunction, RightFunction, RightRest, inside, typed, var_list}
use Rattle.cv_parse_grammar.specs.Declarations.{probability}
use Rattle.cv_parse_grammar.specs.Equivalences.{arguments_and_body, body, copies, function_of, functions, group, left_function, new_before, right_function, right_rest}
use Rattle.cv_parse_terms.specs.declared.piece.Ahead.TheVariants as ahead
use Rattle.cv_parse_terms.specs.declared.piece.Naming.TheVariants as naming
use Rattle.cv_parse_terms.specs.declared.piece.Pairing.TheVariants as pairing
use Rattle.cv_parse_terms.specs.declared.piece.Closing.TheVariants as closing
use Rattle.cv_parse_terms.specs.declared.piece.Piece.{Piece}
use Rattle.cv_parse_terms.specs.declared.piece.Piece.TheVariants as piece
use Rattle.cv_parse_terms.specs.Tables.{Parts, again, before, bounds, bounds_head, last_name, named, other_names, paired, part, waits}
use Rattle.cv_parse_terms.specs.TermRows.{row_of}
use Rattle.cv_parse_terms.proofs.Saying.{IsBelow, Says, before_behind, between, binders_close, both_says, both_wait, bounds_behind, chain_closes, deeper_says, either_says, grows, head_behind, item_waits, level_says, list_says, made_says, many_says, may_says, none_below, pair_behind, part_behind, row_says, same_says, sign_before, sign_behind, value_behind, word_says}
use Rattle.cv_parse_terms.proofs.TermSays.{one_below, says_local, says_local_list, with_makes}
use Rattle.cv_parse_declarations.proofs.processes.Says.{closes_both, closes_one, deep_runs, says_body}
use Rattle.cv_parse_declarations.proofs.signature.Says.{inside_says}

-- four numbers wait: two names, whether they are an index and its bound, and how many empty trees stand before a body

abbrev below_four : List ℕ → List ℕ
below_four xs = other_names (other_names (other_names (other_names xs)))

-- the parts of arguments and a body, with a head between them, and so many empty trees before the body
abbrev parts_around : Head → ℕ → Tree → List Make
parts_around h k p = postorder (first p) ++ (Over h ∷ (replicate k Nothing ++ postorder (second p)))

-- the bounds that they say, around arguments and a body
abbrev around : Tree → Parts → Parts
around p q =
    let threes = other_names q.names in
    let twos = other_names threes in
    let ones = other_names twos in
    record { names = other_names ones; makes = q.makes ++ parts_around (bounds_head (last_name threes) (last_name ones) (last_name twos)) (last_name q.names) p }

-- the phrases one level down
record DeepFunctions (n : ℕ) : Type 0 where
  rest : IsBelow n ahead.Arguments 199 RightRest around
  left : IsBelow n ahead.Word 196 LeftFunction grows
  right : IsBelow n ahead.Word 200 RightFunction grows

-- a replication, or the name of the function again

abbrev copied_waits : Option (ℕ × ℕ) → Parts → Parts
copied_waits None q = waits 0 (waits 0 (waits 0 (again q)))
copied_waits (Some c) q = waits 0 (waits 1 (both_wait c q))

says_copies : (n : ℕ) → Says n 192 (row_of 192) copies (λ c. copied_waits (Some c))
says_copies n =
    let bound = piece.Word BindsBound ∷ [] in
    let index = piece.Word BindsLocal ∷ (piece.Sign mark.AtMost ∷ bound) in
    value_behind 0 (piece.Sign mark.Bang ∷ (index ++ piece.Value 1 ∷ []))
    (value_behind 1 (piece.Sign mark.Bang ∷ index)
    (sign_before mark.Bang index (both_says (piece.Word BindsLocal ∷ []) (piece.Sign mark.AtMost ∷ bound) (word_says n 192 BindsLocal) (sign_before mark.AtMost bound (word_says n 192 BindsBound)))))

says_maybe_copies : (n b : ℕ) → 192 < b → 193 < b → Says n b (piece.Choice (ahead.Mark mark.Bang) 192 193 ∷ []) (may false copies) copied_waits
says_maybe_copies n b h i = may_says b (ahead.Mark mark.Bang) 192 193 false copied_waits h i (λ k. refl) (says_copies n) (λ w. refl)

-- arguments and a body

says_arrow : (n : ℕ) → Says n 195 (row_of 195) (var_list BindsLocal & (mark.Arrow ▸ body)) (λ c q. grows c.1 (bounds (grows c.0 q)))
says_arrow n =
    both_says (piece.Row 149 ∷ (piece.Bounds ∷ [])) (piece.Sign mark.Arrow ∷ (piece.Row 145 ∷ [])) (bounds_behind (piece.Row 149 ∷ []) (row_says 195 149 (lit< tt) (says_local_list n)))
    (sign_before mark.Arrow (piece.Row 145 ∷ []) (row_says 195 145 (lit< tt) (says_body n (deep_runs n))))

put_around : (m a r t : List Make) (h : Make) → ((m ++ a) ++ h ∷ r) ++ t ≡ m ++ (a ++ (h ∷ (r ++ t)))
put_around m a r t h = simp append_assoc refl

closes_around : (c : Tree × Tree) (q : Parts) → grows c.1 (bounds (grows c.0 q)) ≡ around (Node Cons c.0 c.1) q
closes_around c q = ap (λ x. let p : Parts = record { names = below_four q.names; makes = x } in p) (put_around q.makes (postorder c.0) (replicate (last_name q.names) Nothing) (postorder c.1) _)

says_arguments_and_body : (n : ℕ) → Says n 195 (row_of 195) arguments_and_body around
says_arguments_and_body n = made_says (λ (args, t). Node Cons args t) around (same_says (λ c. around (Node Cons c.0 c.1)) closes_around (says_arrow n))

-- a `new` is put before the body
new_put : (h : Head) (count x T : ℕ) (p : Tree) (a b c : List Make) → b ≡ a ++ parts_around h (count + 1) p → c ≡ b ++ Over (New x T) ∷ [] → c ≡ a ++ parts_around h count (Node Cons (first p) (Node (New x T) Empty (second p)))
unfolding postorder
new_put h count x T p a b c e f =
    f ∙ (ap (λ l. l ++ Over (New x T) ∷ []) (e ∙ ap (λ l. a ++ (postorder (first p) ++ (Over h ∷ (l ++ postorder (second p))))) (sym (replicate_more count Nothing)))
    ∙ regrouped a (postorder (first p)) (Over h ∷ []) (replicate count Nothing) (Nothing ∷ []) (postorder (second p)) (Over (New x T) ∷ []))
  where
    regrouped : (a b c d e f g : List Make) → (a ++ (b ++ (c ++ ((d ++ e) ++ f)))) ++ g ≡ a ++ (b ++ (c ++ (d ++ (e ++ (f ++ g)))))
    regrouped a b c d e f g = simp append_assoc

closes_new : (x : ℕ × ℕ) (p : Tree) (q : Parts) → paired pairing.New (around p (before (both_wait x q))) ≡ around (Node Cons (first p) (Node (New x.0 x.1) Empty (second p))) q
closes_new x p q =
    let threes = other_names q.names in
    let twos = other_names threes in
    ap (λ y. let r : Parts = record { names = below_four q.names; makes = y } in r)
    (new_put (bounds_head (last_name threes) (last_name (other_names twos)) (last_name twos)) (last_name q.names) x.0 x.1 p q.makes _ _ refl refl)

says_new_before : (n : ℕ) → DeepFunctions n → Says n 198 (row_of 198) new_before around
says_new_before n d =
    let front = piece.Row 60 ∷ (piece.Before ∷ []) in
    let below = piece.Deeper ahead.Arguments 199 ∷ [] in
    level_says 198 (ahead.Mark mark.New) 197 (lit< tt) (λ k. refl)
    (made_says (λ ((x, T), p). Node Cons (first p) (Node (New x T) Empty (second p))) around
    (same_says (λ c. around (Node Cons (first c.1) (Node (New c.0.0 c.0.1) Empty (second c.1)))) (λ c q. closes_new c.0 c.1 q)
    (pair_behind pairing.New (piece.Sign mark.New ∷ (front ++ (piece.Sign mark.Semicolon ∷ below)))
    (sign_before mark.New (front ++ (piece.Sign mark.Semicolon ∷ below))
    (both_says front (piece.Sign mark.Semicolon ∷ below) (before_behind (piece.Row 60 ∷ []) (row_says 197 60 (lit< tt) (says_local n)))
    (sign_before mark.Semicolon below (deeper_says 197 ahead.Arguments 199 d.rest)))))))

says_rest : (n : ℕ) → DeepFunctions n → Says n 199 (row_of 199) right_rest around
says_rest n d = either_says 199 (ahead.Mark mark.New) 198 195 (lit< tt) (lit< tt) (λ k. refl) (says_new_before n d) (says_arguments_and_body n)

-- functions

closes_right : (f : ℕ) (c : Option (ℕ × ℕ)) (p : Tree) (q : Parts) → named naming.Oracle (around p (part Nothing (copied_waits c (waits f q)))) ≡ grows (function_of f c Empty (first p) (second p)) q
unfolding postorder
closes_right f None p q = with_makes q _ _ (simp append_assoc refl)
closes_right f (Some c) p q = with_makes q _ _ (simp append_assoc refl)

says_right : (n : ℕ) → DeepFunctions n → Says n 200 (row_of 200) right_function grows
says_right n d =
    let front = piece.Choice (ahead.Mark mark.Bang) 192 193 ∷ (piece.Part Nothing ∷ []) in
    let behind = front ++ piece.Row 199 ∷ [] in
    made_says (λ (f, (c, p)). function_of f c Empty (first p) (second p)) grows
    (same_says (λ c. grows (function_of c.0 c.1.0 Empty (first c.1.1) (second c.1.1))) (λ c q. closes_right c.0 c.1.0 c.1.1 q)
    (head_behind naming.Oracle (piece.Word BindsLocal ∷ (piece.Sign mark.Colon ∷ behind))
    (both_says (piece.Word BindsLocal ∷ []) (piece.Sign mark.Colon ∷ behind) (word_says n 200 BindsLocal)
    (sign_before mark.Colon behind
    (both_says front (piece.Row 199 ∷ []) (part_behind Nothing (piece.Choice (ahead.Mark mark.Bang) 192 193 ∷ []) (says_maybe_copies n 200 (lit< tt) (lit< tt))) (row_says 200 199 (lit< tt) (says_rest n d)))))))

closes_left : (f : ℕ) (c : Option (ℕ × ℕ)) (l args t : Tree) (q : Parts) → named naming.Oracle (grows t (bounds (grows args (grows l (copied_waits c (waits f q)))))) ≡ grows (function_of f c l args t) q
unfolding postorder
closes_left f None l args t q = with_makes q _ _ (simp append_assoc refl)
closes_left f (Some c) l args t q = with_makes q _ _ (simp append_assoc refl)

says_chosen : (n : ℕ) → Says n 194 (row_of 194) (typed BindsLocal ◂ mark.Semicolon) item_waits
says_chosen n = part_behind Nothing (piece.Row 60 ∷ (piece.Sign mark.Semicolon ∷ [])) (sign_behind mark.Semicolon (piece.Row 60 ∷ []) (row_says 194 60 (lit< tt) (says_local n)))

says_left : (n : ℕ) → Says n 196 (row_of 196) left_function grows
says_left n =
    let copied = piece.Choice (ahead.Mark mark.Bang) 192 193 ∷ [] in
    let chosen = piece.Many closing.Binders mark.New 194 ∷ [] in
    let behind = copied ++ (chosen ++ piece.Row 195 ∷ []) in
    made_says (λ (f, (c, (l, (args, t)))). function_of f c (binders l) args t) grows
    (same_says (λ c. grows (function_of c.0 c.1.0 (binders c.1.1.0) c.1.1.1.0 c.1.1.1.1)) (λ c q. closes_left c.0 c.1.0 (binders c.1.1.0) c.1.1.1.0 c.1.1.1.1 q)
    (head_behind naming.Oracle (piece.Word BindsLocal ∷ (piece.Sign mark.Colon ∷ behind))
    (both_says (piece.Word BindsLocal ∷ []) (piece.Sign mark.Colon ∷ behind) (word_says n 196 BindsLocal)
    (sign_before mark.Colon behind
    (both_says copied (chosen ++ piece.Row 195 ∷ []) (says_maybe_copies n 196 (lit< tt) (lit< tt))
    (both_says chosen (piece.Row 195 ∷ []) (many_says 196 false closing.Binders mark.New 194 (λ l. grows (binders l)) (lit< tt) binders_close (says_chosen n)) (row_says 196 195 (lit< tt) (says_arrow n))))))))

-- groups

says_functions : {n : ℕ} {s : Sort} (b i j : ℕ) → i < b → row_of b ≡ piece.Level (ahead.Mark mark.Open) i ∷ [] → row_of i ≡ piece.Sign mark.Open ∷ (piece.List closing.Trees mark.Bar j ∷ (piece.Sign mark.Close ∷ [])) → j < i → Says n j (row_of j) (deeper s) grows → Says n b (row_of b) (functions s) grows
says_functions {n = n} {s = s} b i j h e d k x =
    rw e (level_says b (ahead.Mark mark.Open) i h (λ k. refl) (rw d (between mark.Open mark.Close (piece.List closing.Trees mark.Bar j ∷ []) (list_says i closing.Trees mark.Bar j chain k chain_closes x))))

pub says_key : (n : ℕ) → Says n 207 (row_of 207) (typed BindsLocal) (λ b. grows (binders (b ∷ [])))
says_key n =
    same_says (λ b. grows (binders (b ∷ []))) closes_one
    (pair_behind pairing.Binder (piece.Row 60 ∷ (piece.Part Nothing ∷ (piece.Part Nothing ∷ []))) (part_behind Nothing (piece.Row 60 ∷ (piece.Part Nothing ∷ [])) (part_behind Nothing (piece.Row 60 ∷ []) (row_says 207 60 (lit< tt) (says_local n)))))

says_group : {n : ℕ} {s : Sort} (b r : ℕ) → 207 < b → r < b → Says n r (row_of r) (functions s) grows → Says n b (piece.Sign mark.Bang ∷ (piece.Word BindsLocal ∷ (piece.Sign mark.AtMost ∷ (piece.Word BindsBound ∷ (piece.Sign mark.New ∷ (piece.Row 207 ∷ (piece.Sign mark.Semicolon ∷ (piece.Row r ∷ (piece.Paired pairing.Bound ∷ []))))))))) (group s) grows
says_group {n = n} b r h i x =
    let key = piece.Row 207 ∷ (piece.Sign mark.Semicolon ∷ (piece.Row r ∷ [])) in
    let bound = piece.Word BindsBound ∷ (piece.Sign mark.New ∷ key) in
    let index = piece.Word BindsLocal ∷ (piece.Sign mark.AtMost ∷ bound) in
    made_says (λ (i, (m, (key, l))). Node (Bound i m) (binders (key ∷ [])) l) grows
    (same_says (λ c. grows (Node (Bound c.0 c.1.0) (binders (c.1.1.0 ∷ [])) c.1.1.1)) (λ c q. closes_both pairing.Bound c.0 c.1.0 (binders (c.1.1.0 ∷ [])) c.1.1.1 q)
    (pair_behind pairing.Bound (piece.Sign mark.Bang ∷ index)
    (sign_before mark.Bang index
    (both_says (piece.Word BindsLocal ∷ []) (piece.Sign mark.AtMost ∷ bound) (word_says n b BindsLocal)
    (sign_before mark.AtMost bound
    (both_says (piece.Word BindsBound ∷ []) (piece.Sign mark.New ∷ key) (word_says n b BindsBound)
    (sign_before mark.New key
    (both_says (piece.Row 207 ∷ []) (piece.Sign mark.Semicolon ∷ (piece.Row r ∷ [])) (row_says b 207 h (says_key n)) (sign_before mark.Semicolon (piece.Row r ∷ []) (row_says b r i x))))))))))

says_left_group : (n : ℕ) → DeepFunctions n → Says n 208 (row_of 208) (group LeftFunction) grows
says_left_group n d = says_group 208 203 (lit< tt) (lit< tt) (says_functions 203 202 201 (lit< tt) refl refl (lit< tt) (deeper_says 201 ahead.Word 196 d.left))

says_right_group : (n : ℕ) → DeepFunctions n → Says n 209 (row_of 209) (group RightFunction) grows
says_right_group n d = says_group 209 206 (lit< tt) (lit< tt) (says_functions 206 205 204 (lit< tt) refl refl (lit< tt) (deeper_says 204 ahead.Word 200 d.right))

-- equivalences

pub says_probability : (n : ℕ) → Says n 191 (row_of 191) probability waits
says_probability n =
    between mark.AtMost mark.Gives (piece.Level (ahead.Mark mark.Open) 190 ∷ [])
    (level_says 191 (ahead.Mark mark.Open) 190 (lit< tt) (λ k. refl) (between mark.Open mark.Close (piece.Word (Asks AProbability) ∷ []) (word_says n 190 (Asks AProbability))))

closes_sides : (l r : Tree) (p : ℕ) (q : Parts) → named naming.Equivalence (grows r (waits p (grows l q))) ≡ grows (Node (Equivalence p) l r) q
unfolding postorder
closes_sides l r p q = with_makes q _ _ (simp append_assoc refl)

abbrev sides : List Piece
sides = piece.Row 208 ∷ (piece.Row 191 ∷ (piece.Row 209 ∷ []))

says_sides : (n : ℕ) → DeepFunctions n → Says n 210 (sides ++ piece.Named naming.Equivalence ∷ []) (group LeftFunction & (probability & group RightFunction)) (λ c. grows (Node (Equivalence c.1.0) c.0 c.1.1))
says_sides n d =
    same_says (λ c. grows (Node (Equivalence c.1.0) c.0 c.1.1)) (λ c q. closes_sides c.0 c.1.1 c.1.0 q)
    (head_behind naming.Equivalence sides
    (both_says (piece.Row 208 ∷ []) (piece.Row 191 ∷ (piece.Row 209 ∷ [])) (row_says 210 208 (lit< tt) (says_left_group n d))
    (both_says (piece.Row 191 ∷ []) (piece.Row 209 ∷ []) (row_says 210 191 (lit< tt) (says_probability n)) (row_says 210 209 (lit< tt) (says_right_group n d)))))

-- by the levels that are left

deep_functions : (n : ℕ) → DeepFunctions n
deep_functions zero = record {
  rest = none_below ahead.Arguments 199 RightRest around (λ k. refl);
  left = none_below ahead.Word 196 LeftFunction grows (λ k. refl);
  right = none_below ahead.Word 200 RightFunction grows (λ k. refl);
}
deep_functions (suc n) =
    let d : DeepFunctions n = deep_functions n in
    record {
      rest = one_below n ahead.Arguments 199 RightRest (lit< tt) (says_rest n d);
      left = one_below n ahead.Word 196 LeftFunction (lit< tt) (says_left n);
      right = one_below n ahead.Word 200 RightFunction (lit< tt) (says_right n d);
    }

pub says_equivalence : (n : ℕ) → Says n 210 (row_of 210) (mark.Equiv ▸ (word (Declares AnEquivalence) & inside InEquivalence (group LeftFunction & (probability & group RightFunction))) ◂ mark.Dot) (λ c q. grows (Node (Equivalence c.1.1.0) c.1.0 c.1.1.1) (waits c.0 q))
says_equivalence n =
    let inner = piece.Note (Enters InEquivalence) ∷ ((sides ++ piece.Named naming.Equivalence ∷ []) ++ piece.Note Leaves ∷ []) in
    between mark.Equiv mark.Dot (piece.Word (Declares AnEquivalence) ∷ inner)
    (both_says (piece.Word (Declares AnEquivalence) ∷ []) inner (word_says n 210 (Declares AnEquivalence)) (inside_says InEquivalence (sides ++ piece.Named naming.Equivalence ∷ []) (says_sides n (deep_functions n))))
