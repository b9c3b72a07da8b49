-- The rows of processes and of the bodies of functions read what the forms of the grammar read.
use Rattle.std.proofs.Common.{◌≡◌, ℕ, zero, suc, ◌<◌, true, false, [], ◌∷◌, ◌++◌, refl, ap, lit<, append_assoc, Option, Some, None}
use Rattle.cv_syntax_trees.specs.Tree.{Tree, Empty, Node, first, second, chain, binders, names}
use Rattle.cv_syntax_trees.specs.declared.head.Head.TheVariants as head
use Rattle.cv_syntax.specs.Postorder.{postorder}
use Rattle.cv_syntax.specs.declared.make.Make.TheVariants.{Nothing, Over}
use Rattle.cv_parse_notation.specs.declared.sign.Mark.TheVariants as mark
use Rattle.cv_parse_notation.specs.Spells.{Kind, starts}
use Rattle.cv_parse_notation.specs.Form.{word, made, deeper, ◌&◌, ◌▸◌, ◌◂◌}
use Rattle.cv_parse_grammar.specs.declared.role.Asked.TheVariants.{AParam, AChannel, AnEvent}
use Rattle.cv_parse_grammar.specs.declared.role.Role.{Role}
use Rattle.cv_parse_grammar.specs.declared.role.Role.TheVariants.{Asks, AsksBound, AsksIndex, BindsIndex, BindsLocal, BindsVariable}
use Rattle.cv_parse_grammar.specs.Phrases.{Sort, Phrase, Term, Inputs, Input, Output, Pattern, Sending, Payload, Variables, Indices, ProcessBranch, Body, BodyBranch, or_else, listed, typed, vars, indices}
use Rattle.cv_parse_grammar.specs.Rules.{heads}
use Rattle.cv_parse_grammar.specs.Terms.{condition}
use Rattle.cv_parse_grammar.specs.Processes.{stops, yields, channel, channel_indices, over, name_of, indices_and, test, find_in, ending, replication, receiving, input, inputs, received, pattern, variables, sent, sending, payload, continuation, outgoing, recording, otherwise, branch, output}
use Rattle.cv_parse_grammar.specs.Equivalences.{body_branch, body}
use Rattle.cv_parse_terms.specs.declared.piece.Ahead.{Ahead}
use Rattle.cv_parse_terms.specs.declared.piece.Ahead.TheVariants as ahead
use Rattle.cv_parse_terms.specs.declared.piece.Naming.{Naming}
use Rattle.cv_parse_terms.specs.declared.piece.Naming.TheVariants as naming
use Rattle.cv_parse_terms.specs.declared.piece.Pairing.{Pairing}
use Rattle.cv_parse_terms.specs.declared.piece.Pairing.TheVariants as pairing
use Rattle.cv_parse_terms.specs.declared.piece.Closing.TheVariants as closing
use Rattle.cv_parse_terms.specs.declared.piece.Piece.{Piece}
use Rattle.cv_parse_terms.specs.declared.piece.Piece.TheVariants as piece
use Rattle.cv_parse_terms.specs.Tables.{Parts, begins, head_of, instead, named, pair_of, paired, part, waits}
use Rattle.cv_parse_terms.specs.TermRows.{row_of}
use Rattle.cv_parse_terms.proofs.Saying.{IsBelow, Says, after_says, between, binders_close, both_says, both_wait, chain_closes, deeper_says, either_says, find_says, grows, head_behind, item_waits, items_says, level_says, list_says, made_says, may_says, maybe_joins, names_close, none_below, number_says, pair_behind, part_before, part_behind, row_says, same_says, sign_before, sign_says, word_says, zero_says}
use Rattle.cv_parse_terms.proofs.TermSays.{both_trees, changed_same, closes_leaf, deep, joining_tails, one_below, says_condition, says_constant, says_inner, says_joining, says_listed, says_local, says_maybe_terms, says_one, says_term, says_variable, with_makes}

-- a channel waits; its indices, and what goes over it, were made
abbrev pub overs : Tree → Parts → Parts
overs p q = record { names = name_of p ∷ q.names; makes = q.makes ++ (postorder (first p) ++ postorder (second p)) }

-- the phrases one level down
pub record DeepRuns (n : ℕ) : Type 0 where
  pub inputs : IsBelow n ahead.Input 94 Inputs grows
  pub input : IsBelow n ahead.Input 91 Input grows
  pub output : IsBelow n ahead.Output 127 Output grows
  pub pattern : IsBelow n (ahead.Mark mark.Open) 74 Pattern overs
  pub sending : IsBelow n (ahead.Mark mark.Open) 80 Sending overs
  pub payload : IsBelow n (ahead.Mark mark.Open) 76 Payload grows
  pub variables : IsBelow n (ahead.Mark mark.Open) 64 Variables grows
  pub indices : IsBelow n (ahead.Mark mark.OpenSquare) 70 Indices grows
  pub branch : IsBelow n ahead.Branch 117 ProcessBranch grows
  pub body : IsBelow n ahead.Body 145 Body grows
  pub body_branch : IsBelow n ahead.Branch 138 BodyBranch grows

-- parts of nodes

closes_second : (h : Pairing) (x y : ℕ) (t : Tree) (q : Parts) → paired h (grows t (part Nothing (waits y (waits x q)))) ≡ grows (Node (pair_of h x y) Empty t) q
unfolding postorder
closes_second h x y t q = with_makes q _ _ (simp append_assoc refl)

pub closes_both : (h : Pairing) (x y : ℕ) (m t : Tree) (q : Parts) → paired h (grows t (grows m (waits y (waits x q)))) ≡ grows (Node (pair_of h x y) m t) q
unfolding postorder
closes_both h x y m t q = with_makes q _ _ (simp append_assoc refl)

closes_named : (h : Naming) (x : ℕ) (m t : Tree) (q : Parts) → named h (grows t (grows m (waits x q))) ≡ grows (Node (head_of h x) m t) q
unfolding postorder
closes_named h x m t q = with_makes q _ _ (simp append_assoc refl)

closes_over : (h : Naming) (p t : Tree) (q : Parts) → named h (grows t (part (Over head.Cons) (overs p q))) ≡ grows (Node (head_of h (name_of p)) (indices_and p) t) q
unfolding postorder
closes_over h p t q = with_makes q _ _ (simp append_assoc refl)

closes_test : (c t e : Tree) (q : Parts) → part (Over head.If) (part (Over head.Cons) (part (Over head.Cons) (part Nothing (grows e (grows t (grows c q)))))) ≡ grows (test (c, (t, e))) q
unfolding postorder
closes_test c t e q = with_makes q _ _ (simp append_assoc refl)

closes_branch : (l c m t : Tree) (q : Parts) → part (Over head.Branch) (part (Over head.Cons) (part (Over head.Cons) (grows t (both_trees (c, m) (grows l q))))) ≡ grows (Node head.Branch l (Node head.Cons c (Node head.Cons m t))) q
unfolding postorder
closes_branch l c m t q = with_makes q _ _ (simp append_assoc refl)

pub closes_one : (b : ℕ × ℕ) (q : Parts) → paired pairing.Binder (part Nothing (part Nothing (both_wait b q))) ≡ grows (binders (b ∷ [])) q
unfolding postorder
closes_one b q = with_makes q _ _ (simp append_assoc refl)

-- variables

says_vars : (n : ℕ) → Says n 62 (row_of 62) (vars BindsVariable) grows
says_vars n = list_says 62 closing.Binders mark.Comma 61 binders (lit< tt) binders_close (part_behind Nothing (piece.Row 59 ∷ []) (row_says 61 59 (lit< tt) (says_variable n)))

says_variables : (n : ℕ) → Says n 64 (row_of 64) variables grows
says_variables n =
    level_says 64 (ahead.Mark mark.Open) 63 (lit< tt) (λ k. refl)
    (between mark.Open mark.Close (piece.Choice ahead.Word 62 54 ∷ []) (says_listed 63 ahead.Word 62 (lit< tt) (lit< tt) (λ k. refl) (says_vars n)))

says_one_variable : (n : ℕ) → Says n 66 (row_of 66) (made (λ b. binders (b ∷ [])) (typed BindsVariable)) grows
says_one_variable n =
    made_says (λ b. binders (b ∷ [])) grows
    (same_says (λ b. grows (binders (b ∷ []))) closes_one
    (pair_behind pairing.Binder (piece.Row 59 ∷ (piece.Part Nothing ∷ (piece.Part Nothing ∷ []))) (part_behind Nothing (piece.Row 59 ∷ (piece.Part Nothing ∷ [])) (part_behind Nothing (piece.Row 59 ∷ []) (row_says 66 59 (lit< tt) (says_variable n))))))

says_received : (n : ℕ) → DeepRuns n → Says n 67 (row_of 67) received grows
says_received n d = either_says 67 (ahead.Mark mark.Open) 65 66 (lit< tt) (lit< tt) (λ k. refl) (deeper_says 65 (ahead.Mark mark.Open) 64 d.variables) (says_one_variable n)

-- channels and messages

says_channel_indices : (n : ℕ) → Says n 70 (row_of 70) channel_indices grows
says_channel_indices n =
    level_says 70 (ahead.Mark mark.OpenSquare) 69 (lit< tt) (λ k. refl)
    (between mark.OpenSquare mark.CloseSquare (piece.List closing.Names mark.Comma 68 ∷ [])
    (list_says 69 closing.Names mark.Comma 68 names (lit< tt) names_close (part_behind Nothing (piece.Word AsksIndex ∷ []) (word_says n 68 AsksIndex))))

says_channel : (n : ℕ) → DeepRuns n → Says n 72 (row_of 72) channel (λ c q. grows c.1 (waits c.0 q))
says_channel n d =
    both_says (piece.Word (Asks AChannel) ∷ []) (piece.Choice (ahead.Mark mark.OpenSquare) 71 54 ∷ []) (word_says n 72 (Asks AChannel))
    (says_listed 72 (ahead.Mark mark.OpenSquare) 71 (lit< tt) (lit< tt) (λ k. refl) (deeper_says 71 (ahead.Mark mark.OpenSquare) 70 d.indices))

over_parts : (c : (ℕ × Tree) × Tree) (q : Parts) → grows c.1 (grows c.0.1 (waits c.0.0 q)) ≡ overs (over c) q
over_parts c q = ap (λ x. let p : Parts = record { names = c.0.0 ∷ q.names; makes = x } in p) (append_assoc q.makes (postorder c.0.1) (postorder c.1))

-- a channel, and what goes over it, in parentheses
says_over : {n : ℕ} {f : Phrase Tree} (d : DeepRuns n) (b r : ℕ) → 72 < b → r < b → Says n r (row_of r) f grows → Says n b (piece.Sign mark.Open ∷ (piece.Row 72 ∷ (piece.Sign mark.Comma ∷ (piece.Row r ∷ (piece.Sign mark.Close ∷ []))))) (mark.Open ▸ made over (channel & (mark.Comma ▸ f)) ◂ mark.Close) overs
says_over {n = n} d b r h i s =
    between mark.Open mark.Close (piece.Row 72 ∷ (piece.Sign mark.Comma ∷ (piece.Row r ∷ [])))
    (made_says over overs
    (same_says (λ c. overs (over c)) over_parts
    (both_says (piece.Row 72 ∷ []) (piece.Sign mark.Comma ∷ (piece.Row r ∷ [])) (row_says b 72 h (says_channel n d)) (sign_before mark.Comma (piece.Row r ∷ []) (row_says b r i s)))))

says_pattern : (n : ℕ) → DeepRuns n → Says n 74 (row_of 74) pattern overs
says_pattern n d = level_says 74 (ahead.Mark mark.Open) 73 (lit< tt) (λ k. refl) (says_over d 73 67 (lit< tt) (lit< tt) (says_received n d))

says_payload : (n : ℕ) → Says n 76 (row_of 76) payload grows
says_payload n = level_says 76 (ahead.Mark mark.Open) 75 (lit< tt) (λ k. refl) (between mark.Open mark.Close (piece.Row 55 ∷ []) (row_says 75 55 (lit< tt) (says_maybe_terms n (deep n))))

says_sent : (n : ℕ) → DeepRuns n → Says n 78 (row_of 78) sent grows
says_sent n d = either_says 78 (ahead.Mark mark.Open) 77 53 (lit< tt) (lit< tt) (λ k. refl) (deeper_says 77 (ahead.Mark mark.Open) 76 d.payload) (says_one n (deep n))

says_sending : (n : ℕ) → DeepRuns n → Says n 80 (row_of 80) sending overs
says_sending n d = level_says 80 (ahead.Mark mark.Open) 79 (lit< tt) (λ k. refl) (says_over d 79 78 (lit< tt) (lit< tt) (says_sent n d))

-- input processes

says_ending : (n : ℕ) → Says n 82 (row_of 82) ending grows
says_ending n =
    level_says 82 ahead.Zero 81 (lit< tt) (λ k. refl)
    (made_says (λ _. stops) grows
    (same_says (λ _. grows stops) (λ _ q. closes_leaf head.Stop q)
    (part_behind (Over head.Stop) (piece.Zero ∷ (piece.Part Nothing ∷ (piece.Part Nothing ∷ []))) (part_behind Nothing (piece.Zero ∷ (piece.Part Nothing ∷ [])) (part_behind Nothing (piece.Zero ∷ []) (zero_says n 81))))))

says_replication : (n : ℕ) → DeepRuns n → Says n 86 (row_of 86) replication grows
says_replication n d =
    let below = piece.Part Nothing ∷ (piece.Deeper ahead.Input 91 ∷ []) in
    let bound = piece.Word (Asks AParam) ∷ below in
    let index = piece.Word BindsIndex ∷ (piece.Sign mark.AtMost ∷ bound) in
    level_says 86 (ahead.Mark mark.Bang) 85 (lit< tt) (λ k. refl)
    (made_says (λ (i, (n, t)). Node (head.Repl i n) Empty t) grows
    (same_says (λ c. grows (Node (head.Repl c.0 c.1.0) Empty c.1.1)) (λ c q. closes_second pairing.Repl c.0 c.1.0 c.1.1 q)
    (pair_behind pairing.Repl (piece.Sign mark.Bang ∷ index)
    (sign_before mark.Bang index
    (both_says (piece.Word BindsIndex ∷ []) (piece.Sign mark.AtMost ∷ bound) (word_says n 85 BindsIndex)
    (sign_before mark.AtMost bound
    (both_says (piece.Word (Asks AParam) ∷ []) below (word_says n 85 (Asks AParam))
    (part_before Nothing (piece.Deeper ahead.Input 91 ∷ []) (deeper_says 85 ahead.Input 91 d.input)))))))))

says_receiving : (n : ℕ) → DeepRuns n → Says n 88 (row_of 88) receiving grows
says_receiving n d =
    let front = piece.Deeper (ahead.Mark mark.Open) 74 ∷ (piece.Part (Over head.Cons) ∷ []) in
    let back = piece.Sign mark.Semicolon ∷ (piece.Deeper ahead.Output 127 ∷ []) in
    level_says 88 (ahead.Mark mark.In) 87 (lit< tt) (λ k. refl)
    (made_says (λ (p, t). Node (head.In (name_of p)) (indices_and p) t) grows
    (same_says (λ c. grows (Node (head.In (name_of c.0)) (indices_and c.0) c.1)) (λ c q. closes_over naming.In c.0 c.1 q)
    (head_behind naming.In (piece.Sign mark.In ∷ (front ++ back))
    (sign_before mark.In (front ++ back)
    (both_says front back
    (part_behind (Over head.Cons) (piece.Deeper (ahead.Mark mark.Open) 74 ∷ []) (deeper_says 87 (ahead.Mark mark.Open) 74 d.pattern))
    (sign_before mark.Semicolon (piece.Deeper ahead.Output 127 ∷ []) (deeper_says 87 ahead.Output 127 d.output)))))))

says_input : (n : ℕ) → DeepRuns n → Says n 91 (row_of 91) input grows
says_input n d =
    either_says 91 ahead.Zero 82 90 (lit< tt) (lit< tt) (λ k. refl) (says_ending n)
    (either_says 90 (ahead.Mark mark.Open) 84 89 (lit< tt) (lit< tt) (λ k. refl)
    (level_says 84 (ahead.Mark mark.Open) 83 (lit< tt) (λ k. refl) (between mark.Open mark.Close (piece.Deeper ahead.Input 94 ∷ []) (deeper_says 83 ahead.Input 94 d.inputs)))
    (either_says 89 (ahead.Mark mark.Bang) 86 88 (lit< tt) (lit< tt) (λ k. refl) (says_replication n d) (says_receiving n d)))

pub says_inputs : (n : ℕ) → DeepRuns n → Says n 94 (row_of 94) inputs grows
says_inputs n d =
    after_says (piece.Row 91 ∷ []) (piece.Choice (ahead.Mark mark.Bar) 93 0 ∷ []) (row_says 94 91 (lit< tt) (says_input n d))
    (may_says 94 (ahead.Mark mark.Bar) 93 0 false maybe_joins (lit< tt) (lit< tt) (λ k. refl)
    (says_joining 93 mark.Bar 92 ahead.Input 94 head.Par (lit< tt) (sign_says n 92 mark.Bar) d.inputs) (λ w. refl))
    (joining_tails n mark.Bar Inputs head.Par)

-- what is common to processes and the bodies of functions

says_new : {n : ℕ} {s : Sort} (b ty : ℕ) (r : Role) (a : Ahead) (i : ℕ) → ty < b → Says n ty (row_of ty) (typed r) both_wait → IsBelow n a i s grows → Says n b (piece.Sign mark.New ∷ (piece.Row ty ∷ (piece.Sign mark.Semicolon ∷ (piece.Part Nothing ∷ (piece.Deeper a i ∷ (piece.Paired pairing.New ∷ [])))))) (made (λ ((x, T), t). Node (head.New x T) Empty t) (mark.New ▸ (typed r & (mark.Semicolon ▸ deeper s)))) grows
says_new b ty r a i h t d =
    let below = piece.Part Nothing ∷ (piece.Deeper a i ∷ []) in
    made_says (λ ((x, T), t). Node (head.New x T) Empty t) grows
    (same_says (λ c. grows (Node (head.New c.0.0 c.0.1) Empty c.1)) (λ c q. closes_second pairing.New c.0.0 c.0.1 c.1 q)
    (pair_behind pairing.New (piece.Sign mark.New ∷ (piece.Row ty ∷ (piece.Sign mark.Semicolon ∷ below)))
    (sign_before mark.New (piece.Row ty ∷ (piece.Sign mark.Semicolon ∷ below))
    (both_says (piece.Row ty ∷ []) (piece.Sign mark.Semicolon ∷ below) (row_says b ty h t)
    (sign_before mark.Semicolon below (part_before Nothing (piece.Deeper a i ∷ []) (deeper_says b a i d)))))))

says_let : {n : ℕ} {s : Sort} (b ty : ℕ) (r : Role) (a : Ahead) (i : ℕ) → ty < b → 1 < b → Says n ty (row_of ty) (typed r) both_wait → IsBelow n a i s grows → Says n b (piece.Sign mark.Let ∷ (piece.Row ty ∷ (piece.Sign mark.Equal ∷ (piece.Row 1 ∷ (piece.Sign mark.In ∷ (piece.Deeper a i ∷ (piece.Paired pairing.Let ∷ []))))))) (made (λ ((x, T), (m, t)). Node (head.Let x T) m t) (mark.Let ▸ (typed r & (mark.Equal ▸ (deeper Term & (mark.In ▸ deeper s)))))) grows
says_let {n = n} b ty r a i h k t d =
    let below = piece.Sign mark.In ∷ (piece.Deeper a i ∷ []) in
    let rest = piece.Sign mark.Equal ∷ (piece.Row 1 ∷ below) in
    made_says (λ ((x, T), (m, t)). Node (head.Let x T) m t) grows
    (same_says (λ c. grows (Node (head.Let c.0.0 c.0.1) c.1.0 c.1.1)) (λ c q. closes_both pairing.Let c.0.0 c.0.1 c.1.0 c.1.1 q)
    (pair_behind pairing.Let (piece.Sign mark.Let ∷ (piece.Row ty ∷ rest))
    (sign_before mark.Let (piece.Row ty ∷ rest)
    (both_says (piece.Row ty ∷ []) rest (row_says b ty h t)
    (sign_before mark.Equal (piece.Row 1 ∷ below)
    (both_says (piece.Row 1 ∷ []) below (row_says b 1 k (says_inner n (deep n))) (sign_before mark.In (piece.Deeper a i ∷ []) (deeper_says b a i d))))))))

-- a test, whose last piece reads what runs where the condition isn't met
says_test : {n : ℕ} {s : Sort} {f : Phrase Tree} (b : ℕ) (a : Ahead) (i : ℕ) (otherwise : Piece) → 1 < b → IsBelow n a i s grows → Says n b (otherwise ∷ []) f grows → Says n b (piece.Sign mark.If ∷ (piece.Row 1 ∷ (piece.Sign mark.Then ∷ (piece.Deeper a i ∷ (otherwise ∷ (piece.Part Nothing ∷ (piece.Part (Over head.Cons) ∷ (piece.Part (Over head.Cons) ∷ (piece.Part (Over head.If) ∷ []))))))))) (made test (mark.If ▸ (deeper Term & (mark.Then ▸ (deeper s & f))))) grows
says_test {n = n} b a i otherwise k d x =
    let branches = piece.Deeper a i ∷ (otherwise ∷ []) in
    let rest = piece.Row 1 ∷ (piece.Sign mark.Then ∷ branches) in
    let all = piece.Sign mark.If ∷ rest in
    made_says test grows
    (same_says (λ c. grows (test c)) (λ c q. closes_test c.0 c.1.0 c.1.1 q)
    (part_behind (Over head.If) (all ++ (piece.Part Nothing ∷ (piece.Part (Over head.Cons) ∷ (piece.Part (Over head.Cons) ∷ []))))
    (part_behind (Over head.Cons) (all ++ (piece.Part Nothing ∷ (piece.Part (Over head.Cons) ∷ [])))
    (part_behind (Over head.Cons) (all ++ piece.Part Nothing ∷ [])
    (part_behind Nothing all
    (sign_before mark.If rest
    (both_says (piece.Row 1 ∷ []) (piece.Sign mark.Then ∷ branches) (row_says b 1 k (says_inner n (deep n)))
    (sign_before mark.Then branches (both_says (piece.Deeper a i ∷ []) (otherwise ∷ []) (deeper_says b a i d) x)))))))))

-- the number of a `find`, or its label
abbrev relabel : Option ℕ → Parts → Parts
relabel None q = q
relabel (Some l) q = instead l q

relabelled : (o : Option ℕ) (k : ℕ) (q : Parts) → relabel o (waits k q) ≡ waits (or_else k o) q
relabelled None k q = refl
relabelled (Some l) k q = refl

abbrev searched : ℕ × Tree → Parts → Parts
searched p q = grows p.1 (waits p.0 q)

says_find : {n : ℕ} {s : Sort} (b i : ℕ) → 113 < b → 0 < b → i < b → Says n i (row_of i) (deeper s) grows → Says n b (piece.Find ∷ (piece.Choice (ahead.Mark mark.At) 113 0 ∷ (piece.List closing.Trees mark.Orfind i ∷ []))) (find_in s) searched
says_find {n = n} b i h z k x =
    let rest = piece.Choice (ahead.Mark mark.At) 113 0 ∷ (piece.List closing.Trees mark.Orfind i ∷ []) in
    made_says (λ (k, (l, (b, bs))). (or_else k l, chain (b ∷ bs))) searched
    (same_says (λ c. searched (or_else c.0 c.1.0, chain (c.1.1.0 ∷ c.1.1.1))) (λ c q. ap (grows (chain (c.1.1.0 ∷ c.1.1.1))) (relabelled c.1.0 c.0 q))
    (both_says (piece.Find ∷ []) rest (find_says n b)
    (both_says (piece.Choice (ahead.Mark mark.At) 113 0 ∷ []) (piece.List closing.Trees mark.Orfind i ∷ [])
    (may_says b (ahead.Mark mark.At) 113 0 false relabel h z (λ k. refl) (sign_before mark.At (piece.Instead ∷ []) (number_says n 113)) (λ w. refl))
    (items_says b true closing.Trees mark.Orfind i (λ l. grows (chain l)) k chain_closes x))))

says_finding : {n : ℕ} {s : Sort} {f : Phrase Tree} (b i : ℕ) (otherwise : Piece) → 113 < b → 0 < b → i < b → Says n i (row_of i) (deeper s) grows → Says n b (otherwise ∷ []) f grows → Says n b (piece.Find ∷ (piece.Choice (ahead.Mark mark.At) 113 0 ∷ (piece.List closing.Trees mark.Orfind i ∷ (otherwise ∷ (piece.Named naming.Find ∷ []))))) (made (λ ((k, bs), t). Node (head.Find k) bs t) (find_in s & f)) grows
says_finding b i otherwise h z k x y =
    let search = piece.Find ∷ (piece.Choice (ahead.Mark mark.At) 113 0 ∷ (piece.List closing.Trees mark.Orfind i ∷ [])) in
    made_says (λ ((k, bs), t). Node (head.Find k) bs t) grows
    (same_says (λ c. grows (Node (head.Find c.0.0) c.0.1 c.1)) (λ c q. closes_named naming.Find c.0.0 c.0.1 c.1 q)
    (head_behind naming.Find (search ++ otherwise ∷ []) (both_says search (otherwise ∷ []) (says_find b i h z k x) y)))

says_indices : (n b i : ℕ) (index bound : Role) → i < b → row_of i ≡ piece.Word index ∷ (piece.Sign mark.AtMost ∷ (piece.Word bound ∷ (piece.Part Nothing ∷ []))) → Says n i (piece.Word index ∷ (piece.Sign mark.AtMost ∷ (piece.Word bound ∷ (piece.Part Nothing ∷ [])))) (word index & (mark.AtMost ▸ word bound)) item_waits
says_indices n b i index bound h e =
    let rest = piece.Sign mark.AtMost ∷ (piece.Word bound ∷ []) in
    part_behind Nothing (piece.Word index ∷ rest) (both_says (piece.Word index ∷ []) rest (word_says n i index) (sign_before mark.AtMost (piece.Word bound ∷ []) (word_says n i bound)))

says_branch : {n : ℕ} {s : Sort} {f : Phrase Tree} (b ix : ℕ) (a : Ahead) (i : ℕ) → ix < b → 54 < b → 50 < b → ((k : Kind) → begins ahead.Word k ≡ starts heads f k) → Says n ix (row_of ix) f grows → IsBelow n a i s grows → Says n b (piece.Choice ahead.Word ix 54 ∷ (piece.Sign mark.Suchthat ∷ (piece.Row 50 ∷ (piece.Sign mark.Then ∷ (piece.Deeper a i ∷ (piece.Part (Over head.Cons) ∷ (piece.Part (Over head.Cons) ∷ (piece.Part (Over head.Branch) ∷ [])))))))) (made (λ (l, ((c, m), t)). Node head.Branch l (Node head.Cons c (Node head.Cons m t))) (listed f & (mark.Suchthat ▸ (condition & (mark.Then ▸ deeper s))))) grows
says_branch {n = n} b ix a i h k l e x d =
    let below = piece.Sign mark.Then ∷ (piece.Deeper a i ∷ []) in
    let rest = piece.Sign mark.Suchthat ∷ (piece.Row 50 ∷ below) in
    let all = piece.Choice ahead.Word ix 54 ∷ rest in
    made_says (λ (l, ((c, m), t)). Node head.Branch l (Node head.Cons c (Node head.Cons m t))) grows
    (same_says (λ c. grows (Node head.Branch c.0 (Node head.Cons c.1.0.0 (Node head.Cons c.1.0.1 c.1.1)))) (λ c q. closes_branch c.0 c.1.0.0 c.1.0.1 c.1.1 q)
    (part_behind (Over head.Branch) (all ++ (piece.Part (Over head.Cons) ∷ (piece.Part (Over head.Cons) ∷ [])))
    (part_behind (Over head.Cons) (all ++ piece.Part (Over head.Cons) ∷ [])
    (part_behind (Over head.Cons) all
    (both_says (piece.Choice ahead.Word ix 54 ∷ []) rest (says_listed b ahead.Word ix h k e x)
    (sign_before mark.Suchthat (piece.Row 50 ∷ below)
    (both_says (piece.Row 50 ∷ []) below (row_says b 50 l (says_condition n (deep n))) (sign_before mark.Then (piece.Deeper a i ∷ []) (deeper_says b a i d)))))))))

-- output processes

says_continuation : (n : ℕ) → DeepRuns n → Says n 101 (piece.Choice (ahead.Mark mark.Semicolon) 99 100 ∷ []) continuation grows
says_continuation n d =
    made_says (or_else stops) grows
    (may_says 101 (ahead.Mark mark.Semicolon) 99 100 false (λ o. grows (or_else stops o)) (lit< tt) (lit< tt) (λ k. refl)
    (sign_before mark.Semicolon (piece.Deeper ahead.Input 91 ∷ []) (deeper_says 99 ahead.Input 91 d.input))
    (λ w. changed_same (λ q. part (Over head.Stop) (part Nothing (part Nothing q))) (grows stops) w (closes_leaf head.Stop w.parts)))

says_outgoing : (n : ℕ) → DeepRuns n → Says n 102 (row_of 102) outgoing grows
says_outgoing n d =
    let front = piece.Deeper (ahead.Mark mark.Open) 80 ∷ (piece.Part (Over head.Cons) ∷ []) in
    let back = piece.Choice (ahead.Mark mark.Semicolon) 99 100 ∷ [] in
    level_says 102 (ahead.Mark mark.Out) 101 (lit< tt) (λ k. refl)
    (made_says (λ (p, t). Node (head.Out (name_of p)) (indices_and p) t) grows
    (same_says (λ c. grows (Node (head.Out (name_of c.0)) (indices_and c.0) c.1)) (λ c q. closes_over naming.Out c.0 c.1 q)
    (head_behind naming.Out (piece.Sign mark.Out ∷ (front ++ back))
    (sign_before mark.Out (front ++ back)
    (both_says front back
    (part_behind (Over head.Cons) (piece.Deeper (ahead.Mark mark.Open) 80 ∷ []) (deeper_says 101 (ahead.Mark mark.Open) 80 d.sending))
    (says_continuation n d))))))

says_recording : (n : ℕ) → DeepRuns n → Says n 108 (row_of 108) recording grows
says_recording n d =
    let below = piece.Sign mark.Semicolon ∷ (piece.Deeper ahead.Output 127 ∷ []) in
    let rest = piece.Choice (ahead.Mark mark.Open) 51 54 ∷ below in
    level_says 108 (ahead.Mark mark.EventWord) 107 (lit< tt) (λ k. refl)
    (made_says (λ (e, (l, t)). Node (head.Event e) l t) grows
    (same_says (λ c. grows (Node (head.Event c.0) c.1.0 c.1.1)) (λ c q. closes_named naming.Event c.0 c.1.0 c.1.1 q)
    (head_behind naming.Event (piece.Sign mark.EventWord ∷ (piece.Word (Asks AnEvent) ∷ rest))
    (sign_before mark.EventWord (piece.Word (Asks AnEvent) ∷ rest)
    (both_says (piece.Word (Asks AnEvent) ∷ []) rest (word_says n 107 (Asks AnEvent))
    (both_says (piece.Choice (ahead.Mark mark.Open) 51 54 ∷ []) below
    (says_listed 107 (ahead.Mark mark.Open) 51 (lit< tt) (lit< tt) (λ k. refl) (deeper_says 51 (ahead.Mark mark.Open) 4 (deep n).arguments))
    (sign_before mark.Semicolon (piece.Deeper ahead.Output 127 ∷ []) (deeper_says 107 ahead.Output 127 d.output))))))))

says_otherwise : (n b : ℕ) → DeepRuns n → 109 < b → 110 < b → Says n b (piece.Choice (ahead.Mark mark.Else) 109 110 ∷ []) otherwise grows
says_otherwise n b d h i =
    made_says (or_else yields) grows
    (may_says b (ahead.Mark mark.Else) 109 110 true (λ o. grows (or_else yields o)) h i (λ k. refl)
    (sign_before mark.Else (piece.Deeper ahead.Output 127 ∷ []) (deeper_says 109 ahead.Output 127 d.output))
    (λ w. changed_same (λ q. part (Over head.Yield) (part Nothing (part Nothing q))) (grows yields) w (closes_leaf head.Yield w.parts)))

says_process_indices : (n : ℕ) → Says n 115 (row_of 115) (indices BindsVariable (Asks AParam)) grows
says_process_indices n = list_says 115 closing.Binders mark.Comma 114 binders (lit< tt) binders_close (says_indices n 115 114 BindsVariable (Asks AParam) (lit< tt) refl)

says_process_branch : (n : ℕ) → DeepRuns n → Says n 117 (row_of 117) branch grows
says_process_branch n d = level_says 117 ahead.Branch 116 (lit< tt) (λ k. refl) (says_branch 116 115 ahead.Output 127 (lit< tt) (lit< tt) (lit< tt) (λ k. refl) (says_process_indices n) d.output)

says_output : (n : ℕ) → DeepRuns n → Says n 127 (row_of 127) output grows
says_output n d =
    either_says 127 (ahead.Mark mark.Yield) 96 126 (lit< tt) (lit< tt) (λ k. refl) (level_says 96 (ahead.Mark mark.Yield) 95 (lit< tt) (λ k. refl) (says_constant n 95 mark.Yield head.Yield))
    (either_says 126 (ahead.Mark mark.Open) 98 125 (lit< tt) (lit< tt) (λ k. refl)
    (level_says 98 (ahead.Mark mark.Open) 97 (lit< tt) (λ k. refl) (between mark.Open mark.Close (piece.Deeper ahead.Output 127 ∷ []) (deeper_says 97 ahead.Output 127 d.output)))
    (either_says 125 (ahead.Mark mark.Out) 102 124 (lit< tt) (lit< tt) (λ k. refl) (says_outgoing n d)
    (either_says 124 (ahead.Mark mark.New) 104 123 (lit< tt) (lit< tt) (λ k. refl) (level_says 104 (ahead.Mark mark.New) 103 (lit< tt) (λ k. refl) (says_new 103 59 BindsVariable ahead.Output 127 (lit< tt) (says_variable n) d.output))
    (either_says 123 (ahead.Mark mark.Let) 106 122 (lit< tt) (lit< tt) (λ k. refl) (level_says 106 (ahead.Mark mark.Let) 105 (lit< tt) (λ k. refl) (says_let 105 59 BindsVariable ahead.Output 127 (lit< tt) (lit< tt) (says_variable n) d.output))
    (either_says 122 (ahead.Mark mark.EventWord) 108 121 (lit< tt) (lit< tt) (λ k. refl) (says_recording n d)
    (either_says 121 (ahead.Mark mark.If) 112 120 (lit< tt) (lit< tt) (λ k. refl)
    (level_says 112 (ahead.Mark mark.If) 111 (lit< tt) (λ k. refl) (says_test 111 ahead.Output 127 (piece.Choice (ahead.Mark mark.Else) 109 110) (lit< tt) d.output (says_otherwise n 111 d (lit< tt) (lit< tt))))
    (level_says 120 ahead.Find 119 (lit< tt) (λ k. refl)
    (says_finding 119 118 (piece.Choice (ahead.Mark mark.Else) 109 110) (lit< tt) (lit< tt) (lit< tt) (deeper_says 118 ahead.Branch 117 d.branch) (says_otherwise n 119 d (lit< tt) (lit< tt))))))))))

-- the bodies of functions

says_else : (n : ℕ) → DeepRuns n → Says n 132 (row_of 132) (mark.Else ▸ deeper Body) grows
says_else n d = sign_before mark.Else (piece.Deeper ahead.Body 145 ∷ []) (deeper_says 132 ahead.Body 145 d.body)

says_body_indices : (n : ℕ) → Says n 136 (row_of 136) (indices BindsLocal AsksBound) grows
says_body_indices n = list_says 136 closing.Binders mark.Comma 135 binders (lit< tt) binders_close (says_indices n 136 135 BindsLocal AsksBound (lit< tt) refl)

says_body_branch : (n : ℕ) → DeepRuns n → Says n 138 (row_of 138) body_branch grows
says_body_branch n d = level_says 138 ahead.Branch 137 (lit< tt) (λ k. refl) (says_branch 137 136 ahead.Body 145 (lit< tt) (lit< tt) (lit< tt) (λ k. refl) (says_body_indices n) d.body)

pub says_body : (n : ℕ) → DeepRuns n → Says n 145 (row_of 145) body grows
says_body n d =
    either_says 145 (ahead.Mark mark.New) 129 144 (lit< tt) (lit< tt) (λ k. refl) (level_says 129 (ahead.Mark mark.New) 128 (lit< tt) (λ k. refl) (says_new 128 60 BindsLocal ahead.Body 145 (lit< tt) (says_local n) d.body))
    (either_says 144 (ahead.Mark mark.Let) 131 143 (lit< tt) (lit< tt) (λ k. refl) (level_says 131 (ahead.Mark mark.Let) 130 (lit< tt) (λ k. refl) (says_let 130 60 BindsLocal ahead.Body 145 (lit< tt) (lit< tt) (says_local n) d.body))
    (either_says 143 (ahead.Mark mark.If) 134 142 (lit< tt) (lit< tt) (λ k. refl)
    (level_says 134 (ahead.Mark mark.If) 133 (lit< tt) (λ k. refl) (says_test 133 ahead.Body 145 (piece.Row 132) (lit< tt) d.body (row_says 133 132 (lit< tt) (says_else n d))))
    (either_says 142 ahead.Find 141 37 (lit< tt) (lit< tt) (λ k. refl)
    (level_says 141 ahead.Find 140 (lit< tt) (λ k. refl)
    (says_finding 140 139 (piece.Row 132) (lit< tt) (lit< tt) (lit< tt) (deeper_says 139 ahead.Branch 138 d.body_branch) (row_says 140 132 (lit< tt) (says_else n d))))
    (says_term n (deep n)))))

-- by the levels that are left

pub deep_runs : (n : ℕ) → DeepRuns n
deep_runs zero = record {
  inputs = none_below ahead.Input 94 Inputs grows (λ k. refl);
  input = none_below ahead.Input 91 Input grows (λ k. refl);
  output = none_below ahead.Output 127 Output grows (λ k. refl);
  pattern = none_below (ahead.Mark mark.Open) 74 Pattern overs (λ k. refl);
  sending = none_below (ahead.Mark mark.Open) 80 Sending overs (λ k. refl);
  payload = none_below (ahead.Mark mark.Open) 76 Payload grows (λ k. refl);
  variables = none_below (ahead.Mark mark.Open) 64 Variables grows (λ k. refl);
  indices = none_below (ahead.Mark mark.OpenSquare) 70 Indices grows (λ k. refl);
  branch = none_below ahead.Branch 117 ProcessBranch grows (λ k. refl);
  body = none_below ahead.Body 145 Body grows (λ k. refl);
  body_branch = none_below ahead.Branch 138 BodyBranch grows (λ k. refl);
}
deep_runs (suc n) =
    let d : DeepRuns n = deep_runs n in
    record {
      inputs = one_below n ahead.Input 94 Inputs (lit< tt) (says_inputs n d);
      input = one_below n ahead.Input 91 Input (lit< tt) (says_input n d);
      output = one_below n ahead.Output 127 Output (lit< tt) (says_output n d);
      pattern = one_below n (ahead.Mark mark.Open) 74 Pattern (lit< tt) (says_pattern n d);
      sending = one_below n (ahead.Mark mark.Open) 80 Sending (lit< tt) (says_sending n d);
      payload = one_below n (ahead.Mark mark.Open) 76 Payload (lit< tt) (says_payload n);
      variables = one_below n (ahead.Mark mark.Open) 64 Variables (lit< tt) (says_variables n);
      indices = one_below n (ahead.Mark mark.OpenSquare) 70 Indices (lit< tt) (says_channel_indices n);
      branch = one_below n ahead.Branch 117 ProcessBranch (lit< tt) (says_process_branch n d);
      body = one_below n ahead.Body 145 Body (lit< tt) (says_body n d);
      body_branch = one_below n ahead.Branch 138 BodyBranch (lit< tt) (says_body_branch n d);
    }
