-- The steps of a script that was read are known trees of the table, whose texts are read back.
use Rattle.std.proofs.Common.{◌≡◌, ℕ, zero, suc, ◌+◌, ◌<◌, ◌≤◌, ◌^◌, true, nat_lt, List, [], ◌∷◌, ◌++◌, length, append-nil, Ok, refl, ap, sym, ◌∙◌, subst, arith, codes, inl, inr}
use Rattle.std.specs.List.{AllByRecursion}
use Rattle.std.proofs.lemmas.Bool.{and_parts, lt-ltb}
use Rattle.std.proofs.lemmas.Option.{slice_get_within}
use Rattle.cv_syntax_trees.proofs.lists.Each.{AllByRecursion_weaker}
use Rattle.cv_lex.specs.Lexis.{Token}
use Rattle.cv_lex.specs.View.{AreTokens}
use Rattle.cv_syntax_trees.specs.Tree.{Tree, chain}
use Rattle.cv_parse_notation.specs.declared.sign.Sign.{Sign}
use Rattle.cv_parse_grammar.specs.Files.{levels}
use Rattle.cv_parse_tables.specs.terminals.ScriptSigns.{between, script_signs}
use Rattle.cv_parse_tables.specs.Trees.{all_of, single}
use Rattle.cv_script.specs.reader.Scripts.{items as items_of, script_of, script_read}
use Rattle.cv_syntax.specs.limits.Limits.{nodes_of}
use Rattle.cv_script_laws.proofs.forms.Agreement.{sorts_pass}
use Rattle.cv_print_bytes.specs.Known.{AreNames}
use Rattle.cv_print_bytes.proofs.Files.{names_of_script}
use Rattle.cv_print_scripts.specs.Known.{is_known}
use Rattle.cv_print_scripts.specs.Texts.{FitsIn}
use Rattle.cv_script_laws.specs.printing.Back.{ComesBack}
use Rattle.cv_script_laws.proofs.printing.Back.{comes_back}
use Rattle.cv_print_scripts.proofs.Texts.{step_is_read}
use Rattle.cv_print_scripts.specs.steps.Trees.{Behind, IsTree, JustOne, Makes}
use Rattle.cv_script.specs.rows.Rows.{script_row, script_rows, step_row}
use Rattle.cv_script.specs.Text.{step_text, text_levels}
use Rattle.cv_script_laws.proofs.forms.Made.{AtRow, OneMade, row_at, row_from}
use Rattle.cv_script_laws.proofs.forms.Deciding.{accepts, to_deep}
use Rattle.cv_script_laws.specs.printing.Trees.{IsKnownStep, IsReadBack}
use Rattle.cv_script_laws.proofs.printing.Files.{AreGood, IsText}
use Rattle.cv_script_laws.proofs.printing.Good.{script_good}
use Rattle.cv_script_laws.proofs.printing.Levels.{MadeOver, row_is_made}
use Rattle.cv_script_laws.proofs.printing.Trees.{AreKnown, BelowIs, IsKnown, NameIs, NumberIs, script_tree}

items_of_chain : (l : List Tree) → items_of (chain l) ≡ l
items_of_chain [] = refl
items_of_chain (t ∷ l) = ap (λ z. t ∷ z) (items_of_chain l)

module _ (count : ℕ) (some : nat_lt 0 count ≡ true) where
  abbrev InRow : ℕ → ℕ → Makes
  InRow k r ts = MadeOver count some levels k r ts

  abbrev MadeAt : ℕ → Makes
  MadeAt r ts = AtRow (NameIs count some) (NumberIs count some) (IsText count some) (BelowIs count some (IsTree script_rows levels)) script_rows r ts

  abbrev OneOf : ℕ → ℕ → ℕ → Makes
  OneOf k r n ts = OneMade (NameIs count some) (NumberIs count some) (IsText count some) (BelowIs count some (IsTree script_rows levels)) (InRow k) r n ts

  row : (k r : ℕ) → nat_lt r k ≡ true → (ts : List Tree) → InRow k r ts → MadeAt r ts
  row k r e ts d = row_at (NameIs count some) (NumberIs count some) (IsText count some) (BelowIs count some (IsTree script_rows levels)) script_rows k r e ts d

  back : (k r : ℕ) → nat_lt r k ≡ true → (ts : List Tree) → MadeAt r ts → InRow k r ts
  back k r e ts d = row_from (NameIs count some) (NumberIs count some) (IsText count some) (BelowIs count some (IsTree script_rows levels)) script_rows k r e ts d

  one_over : {P : Tree → Type 0} (ts : List Tree) → Behind (JustOne P) (λ l. l ≡ []) ts → (t : Tree) × (ts ≡ t ∷ [])
  one_over ts d = (d.first.0, d.parts ∙ (ap (λ z. z ++ d.back) d.first.1 ∙ ap (λ z. d.first.0 ∷ z) d.second))

  -- a row of steps makes one tree
  one_tree : (ts : List Tree) → OneOf 156 136 19 ts → (t : Tree) × (ts ≡ t ∷ [])
  one_tree ts (inl d) = one_over ts (row 156 136 refl ts d)
  one_tree ts (inr (inl d)) = one_over ts (row 156 137 refl ts d)
  one_tree ts (inr (inr (inl d))) = one_over ts (row 156 138 refl ts d)
  one_tree ts (inr (inr (inr (inl d)))) = one_over ts (row 156 139 refl ts d)
  one_tree ts (inr (inr (inr (inr (inl d))))) = one_over ts (row 156 140 refl ts d)
  one_tree ts (inr (inr (inr (inr (inr (inl d)))))) = one_over ts (row 156 141 refl ts d)
  one_tree ts (inr (inr (inr (inr (inr (inr (inl d))))))) = one_over ts (row 156 142 refl ts d)
  one_tree ts (inr (inr (inr (inr (inr (inr (inr (inl d)))))))) = one_over ts (row 156 143 refl ts d)
  one_tree ts (inr (inr (inr (inr (inr (inr (inr (inr (inl d))))))))) = one_over ts (row 156 144 refl ts d)
  one_tree ts (inr (inr (inr (inr (inr (inr (inr (inr (inr (inl d)))))))))) = one_over ts (row 156 145 refl ts d)
  one_tree ts (inr (inr (inr (inr (inr (inr (inr (inr (inr (inr (inl d))))))))))) = one_over ts (row 156 146 refl ts d)
  one_tree ts (inr (inr (inr (inr (inr (inr (inr (inr (inr (inr (inr (inl d)))))))))))) = one_over ts (row 156 147 refl ts d)
  one_tree ts (inr (inr (inr (inr (inr (inr (inr (inr (inr (inr (inr (inr (inl d))))))))))))) = one_over ts (row 156 148 refl ts d)
  one_tree ts (inr (inr (inr (inr (inr (inr (inr (inr (inr (inr (inr (inr (inr (inl d)))))))))))))) = one_over ts (row 156 149 refl ts d)
  one_tree ts (inr (inr (inr (inr (inr (inr (inr (inr (inr (inr (inr (inr (inr (inr (inl d))))))))))))))) = one_over ts (row 156 150 refl ts d)
  one_tree ts (inr (inr (inr (inr (inr (inr (inr (inr (inr (inr (inr (inr (inr (inr (inr (inl d)))))))))))))))) = one_over ts (row 156 151 refl ts d)
  one_tree ts (inr (inr (inr (inr (inr (inr (inr (inr (inr (inr (inr (inr (inr (inr (inr (inr (inl d))))))))))))))))) = one_over ts (row 156 152 refl ts d)
  one_tree ts (inr (inr (inr (inr (inr (inr (inr (inr (inr (inr (inr (inr (inr (inr (inr (inr (inr (inl d)))))))))))))))))) = one_over ts (row 156 153 refl ts d)
  one_tree ts (inr (inr (inr (inr (inr (inr (inr (inr (inr (inr (inr (inr (inr (inr (inr (inr (inr (inr (inl d))))))))))))))))))) = one_over ts (row 156 154 refl ts d)
  one_tree ts (inr (inr (inr (inr (inr (inr (inr (inr (inr (inr (inr (inr (inr (inr (inr (inr (inr (inr (inr d))))))))))))))))))) = absurd d

  -- one of so many rows, and of more of them
  one_below : (n r : ℕ) → r + n ≤ 155 → (ts : List Tree) → OneOf 156 r n ts → OneOf 155 r n ts
  one_below zero r h ts d = d
  one_below (suc n) r h ts (inl d) = inl (back 155 r (lt-ltb r 155 (omega arith)) ts (row 156 r (lt-ltb r 156 (omega arith)) ts d))
  one_below (suc n) r h ts (inr d) = inr (one_below n (r + 1) (omega arith) ts d)

  -- a step that may be printed
  abbrev IsStep : Tree → Type 0
  IsStep t = IsTree script_rows text_levels step_row t

  -- a step with its semicolon
  a_step : (ts : List Tree) → InRow 157 156 ts → (t : Tree) × (ts ≡ t ∷ []) × IsStep t
  a_step ts e =
      let d = row 157 156 refl ts e in
      let x = one_tree d.front d.first in
      let rest : d.back ≡ [] = d.second.parts ∙ (ap (λ z. z ++ d.second.back) d.second.first ∙ d.second.second) in
      let made = back 159 155 refl d.front (record { front = d.front; back = []; parts = sym (append-nil d.front); first = one_below 19 136 (omega arith) d.front d.first; second = refl }) in
      let y = script_tree count some levels step_row d.front made in
      (x.0, d.parts ∙ (ap (λ z. d.front ++ z) rest ∙ ap (λ z. z ++ []) x.1), subst (λ z. IsStep (single z)) x.1 y.0)

  all_steps : (l : List (List Tree)) → AllByRecursion (InRow 157 156) l → AllByRecursion IsStep (all_of l)
  all_steps [] d = tt
  all_steps (ts ∷ l) d = let x = a_step ts d.0 in subst (λ z. AllByRecursion IsStep (z ++ all_of l)) (sym x.1) (x.2, all_steps l d.1)

  -- the steps of a script
  script_steps : (ts : List Tree) → InRow 159 158 ts → (l : List Tree) × (ts ≡ chain l ∷ []) × AllByRecursion IsStep l
  script_steps ts e =
      let d = row 159 158 refl ts e in
      let l = d.first.2.0 in
      let b = row 158 157 refl l d.first.2.2 in
      let is : l ≡ all_of b.first.0 = b.parts ∙ (ap (λ z. b.front ++ z) b.second ∙ (append-nil b.front ∙ b.first.1)) in
      (l, d.parts ∙ (ap (λ z. z ++ d.back) d.first.1 ∙ ap (λ z. d.first.0 ∷ z) d.second) ∙ ap (λ t. t ∷ []) d.first.2.1, subst (AllByRecursion IsStep) (sym is) (all_steps b.first.0 b.first.2))

  -- what is known of each item of a chain
  items_known : (l : List Tree) → IsKnown count some (chain l) → AreKnown count some l
  unfolding is_known
  items_known [] k = tt
  items_known (t ∷ l) k = let p = and_parts (is_known count t) (is_known count (chain l)) k in (p.0, items_known l p.1)

  known_steps : (l : List Tree) → AllByRecursion IsStep l → AreKnown count some l → AllByRecursion (IsKnownStep count) l
  known_steps [] d k = tt
  known_steps (t ∷ l) d k = (record { tree = d.0; known = k.0 }, known_steps l d.1 k.1)

  pub steps_known : (limit live from : ℕ) (signs : List Sign) (steps : List Tree) → AreGood count signs → script_of limit live from signs ≡ Ok steps → AllByRecursion (IsKnownStep count) steps
  unfolding sorts_pass
  steps_known limit live from signs steps good e =
      let r = accepts limit live from signs steps e in
      let spelled = to_deep signs r.script r.uses [] r.spelled in
      let m = row_is_made count some levels script_row signs spelled.0 r.uses [] spelled.1 good in
      let s = script_steps spelled.0 m in
      let known = subst (AreKnown count some) s.1 (script_tree count some levels script_row spelled.0 m).1 in
      let is : steps ≡ s.0 = r.items ∙ (ap items_of (sym spelled.2 ∙ ap single s.1) ∙ items_of_chain s.0) in
      subst (AllByRecursion (IsKnownStep count)) (sym is) (known_steps s.0 s.2 (items_known s.0 known.0))

-- by tokens

module _ (names : List (List ℕ)) (tokens : List Token) (from to : ℕ) (are : AreTokens tokens) (within : to < length tokens) (few : length tokens < 2 ^ 64) (proper : AreNames names) where
  abbrev behind : List (List ℕ)
  behind = (script_signs names (between from to tokens)).names

  known : AreNames behind
  known = names_of_script names tokens from to are proper

  some_names : nat_lt 0 (length behind) ≡ true
  some_names = lt-ltb 0 (length behind) (slice_get_within behind 0 (codes "bool") known.bool_first)

  pub read_known : (limit live : ℕ) (steps : List Tree) → script_read limit live names tokens from to ≡ Ok steps → AllByRecursion (IsKnownStep (length behind)) steps
  read_known limit live steps e = steps_known (length behind) some_names limit live from (script_signs names (between from to tokens)).signs steps (script_good names tokens from to are within few known.bool_first) e

  pub read_back : (limit live : ℕ) (steps : List Tree) → script_read limit live names tokens from to ≡ Ok steps → AllByRecursion (IsReadBack behind) steps
  unfolding step_text
  read_back limit live steps e =
      AllByRecursion_weaker (IsKnownStep (length behind)) (IsReadBack behind) (λ t d. record {
        comes_back = λ limit live from fits room. comes t d limit live from fits room;
      }) steps (read_known limit live steps e)
    where
      comes : (t : Tree) → IsKnownStep (length behind) t → (limit live from : ℕ) → FitsIn script_rows text_levels step_row (suc levels) t → live + nodes_of (chain (t ∷ [])) ≤ limit → ComesBack limit live from behind (step_text behind t ++ codes ";") (t ∷ [])
      comes t d limit live from fits room = comes_back limit live from behind _ _ (chain (t ∷ [])) (step_is_read behind text_levels t known d.known d.tree) fits room
