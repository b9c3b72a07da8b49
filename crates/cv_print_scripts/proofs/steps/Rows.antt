-- What is shown of a tree of a table spells it, row by row.
use Rattle.std.proofs.Common.{◌≡◌, ℕ, zero, suc, ◌+◌, ◌≤◌, Bool, true, false, ◌&&◌, ◌||◌, ◌==◌, not, List, [], ◌∷◌, ◌++◌, length, None, refl, ap, sym, subst, ◌∙◌, arith, codes}
use Rattle.std.specs.Prelude.{slice_index_or}
use Rattle.std.proofs.lemmas.Bool.{eq-eqb, eqb-true, ne_eqb, not-true}
use Rattle.std.proofs.lemmas.List.{append-nil}
use Rattle.cv_syntax_trees.proofs.lists.Tests.{and_first, and_second}
use Rattle.cv_syntax_trees.specs.Tree.{Tree, Empty, Node}
use Rattle.cv_parse_notation.specs.declared.script.ScriptWord.{ScriptWord}
use Rattle.cv_parse_notation.specs.declared.sign.Mark.{Mark}
use Rattle.cv_parse_notation.specs.declared.sign.Sign.{Sign}
use Rattle.cv_parse_notation.specs.declared.sign.Sign.TheVariants as token
use Rattle.cv_parse_notation.specs.Form.{deeper, made, note, number, script_word, sign, word}
use Rattle.cv_parse_notation.specs.Marks.{mark_code}
use Rattle.cv_parse_notation.specs.ScriptWords.{word_code}
use Rattle.cv_parse_notation.specs.Spells.{IsSort, Spells, is_number, may_vanish, next_is, number_kind, starts, used}
use Rattle.cv_parse_notation.specs.Fits.{within}
use Rattle.cv_parse_notation.proofs.Complete.{within_next}
use Rattle.cv_parse_grammar.specs.declared.role.Role.{Role}
use Rattle.cv_parse_grammar.specs.Names.{Uses}
use Rattle.cv_parse_terms.specs.Gives.{positive}
use Rattle.cv_parse_tables.specs.spelling.Spelling.{spelling}
use Rattle.cv_parse_tables.specs.spelling.ScriptSpelling.{word_spelling}
use Rattle.cv_parse_tables.specs.declared.piece.Outer.{Outer}
use Rattle.cv_parse_tables.specs.declared.piece.Piece.{Piece}
use Rattle.cv_parse_tables.specs.declared.piece.Piece.TheVariants as piece
use Rattle.cv_parse_tables.specs.Table.{Row, Table, TreesForm, blank, carried, counted, form, named, outer_form, piece_form, row_form, row_phrase, table_heads, table_rule}
use Rattle.cv_parse_tables.specs.Table as grammar
use Rattle.cv_parse_tables.specs.Trees.{single}
use Rattle.cv_print_tables.specs.Layout.{Layout, layout, piece_layout, row_layout}
use Rattle.cv_print_tables.specs.Layout as lay
use Rattle.cv_print_tables.specs.Prints.{takes}
use Rattle.cv_print_bytes.specs.terminals.Written.{opens}
use Rattle.cv_print_scripts.specs.steps.Apart.{is_closed, trails, all_avoid, all_avoid_each, choice_tells, ends, firsts, follows, is_counted, is_deep, is_firm, is_single, is_whole, one_tells, piece_tells, pieces_tell, rows_tell, tells_apart}
use Rattle.cv_print_scripts.specs.steps.Shown.{Shown, Shows, Words, first_of, name_shown, number_shown, one_down, outer_shown, piece_shown, pieces_shown, plain, row_shown, tree_shown}
use Rattle.cv_print_scripts.specs.steps.Shown as show
use Rattle.cv_print_scripts.specs.steps.Trees.{IsName, IsNumber, IsOuter, IsTree, Makes, OneMakes, PieceMakes, PiecesMake, RowMakes}
use Rattle.cv_print_scripts.specs.steps.Trees as make
use Rattle.cv_print_scripts.proofs.steps.Good.{Firm, FirmHead, Front, Good, Spoken, any_head, both_good, chain_good, either_good, firm_in, level_good, many_good, may_good, never_good, one_good, over_good, say, text_good, turned}
use Rattle.cv_print_scripts.proofs.steps.Heads.{stops_at_end}
use Rattle.cv_print_scripts.proofs.steps.Outer.{below_of, outer_back}
use Rattle.cv_print_scripts.proofs.steps.Phrases.{outer_firm, outer_front, outer_said, outer_trails}

abbrev pub IsNode : Tree → Type 0
IsNode Empty = ⊥
IsNode (Node h a b) = Unit {0}

module _ (words : Words) (table : Table) (known : (w : ScriptWord) → words.script (words.number w) ≡ w) where
  -- what is shown one level down
  pub record Deep (r : ℕ) (t : Tree) (x : Shown) : Type 0 where
    pub node : IsNode t
    pub said : say words table x.signs ≡ x.signs
    pub front : Front words table (table_heads table (Row r)) false x.signs
    pub spells : (m : ℕ) → x.levels ≤ m → (rest : List Sign) → next_is opens rest ≡ false → say words table rest ≡ rest → (us : Uses) × IsSort (table_heads table) (table_rule table) m (Row r) (x.signs ++ rest) t us rest

  -- pieces

  sign_good : (m : Mark) → Good words table (made (λ _. []) (sign m)) (lay.text (spelling m)) (plain (token.Mark m ∷ [])) (λ ts. ts ≡ [])
  sign_good m = text_good words table (made (λ _. []) (sign m)) (spelling m) (token.Mark m ∷ []) refl (eq-eqb (mark_code m) (mark_code m) refl) (λ n rest. ([], (tt, record { tokens = refl; uses = refl }, refl)))

  script_good : (w : ScriptWord) → Good words table (made (λ _. []) (script_word w)) (lay.text (word_spelling w)) (plain (token.Word (words.number w) w ∷ [])) (λ ts. ts ≡ [])
  script_good w =
      text_good words table (made (λ _. []) (script_word w)) (word_spelling w) (token.Word (words.number w) w ∷ []) (ap (λ v. token.Word (words.number w) v ∷ []) (known w)) (eq-eqb (word_code w) (word_code w) refl) (
      λ n rest. ([], (tt, record { text = words.number w; tokens = refl; uses = refl }, refl))
      )

  blank_good : (text : List ℕ) → Good words table blank (lay.text text) (plain []) (λ ts. ts ≡ [])
  blank_good text = text_good words table blank text [] refl refl (λ n rest. ([], (None, (record { tokens = refl; uses = refl }, λ e. absurd (cc)), refl)))

  note_good : (r : Role) → Good words table (made (λ _. []) (note r)) (lay.text []) (plain []) (λ ts. ts ≡ [])
  note_good r = text_good words table (made (λ _. []) (note r)) [] [] refl refl (λ n rest. (used r 0 rest, (length rest, (refl, record { tokens = refl; uses = refl }), refl)))

  word_good : (r : Role) → Good words table (made named (word r)) lay.name (show.one (name_shown words)) (make.JustOne IsName)
  word_good r =
      one_good words table (made named (word r)) lay.name (name_shown words) IsName refl
      (λ t d. firm_in words table lay.name t (firms t d))
      (λ t d i. firms t d)
      (λ t d. subst (λ z. Spoken words table (made named (word r)) (z ∷ []) (name_shown words z)) (sym d.1) (record {
        said = refl;
        front = refl;
        spells = λ m i rest s q. (used r (suc d.0) (token.Word (suc d.0) (words.script (suc d.0)) ∷ rest), (suc d.0, record { script = words.script (suc d.0); tokens = refl; uses = refl }, refl));
      }))
    where
      firms : (t : Tree) → IsName t → FirmHead lay.name t
      firms t d = subst (FirmHead lay.name) (sym d.1) (ap (λ b. not (b && true) || false) (ne_eqb 0 (suc d.0) (λ e. omega (arith, e))), refl)

  number_good : Good words table (made counted number) lay.number (show.one number_shown) (make.JustOne IsNumber)
  number_good =
      one_good words table (made counted number) lay.number number_shown IsNumber refl
      (λ t d. firm_in words table lay.number t (firms t d))
      (λ t d i. firms t d)
      (λ t d. subst (λ z. Spoken words table (made counted number) (z ∷ []) (number_shown z)) (sym d.1) (record {
        said = refl;
        front = is_one d.0;
        spells = λ m i rest s q. ([], (d.0, record { tokens = refl; uses = refl }, refl));
      }))
    where
      firms : (t : Tree) → IsNumber t → FirmHead lay.number t
      firms t d = subst (FirmHead lay.number) (sym d.1) (refl, refl)

      is_one : (v : ℕ) → is_number (number_kind v) ≡ true
      is_one zero = refl
      is_one (suc v) = refl

  phrase_good : (p : Outer) → Good words table (made (λ t. t ∷ []) (carried (outer_form p))) (lay.outer p) (show.one (outer_shown words p)) (make.JustOne (IsOuter p))
  phrase_good p =
      one_good words table (made (λ t. t ∷ []) (carried (outer_form p))) (lay.outer p) (outer_shown words p) (IsOuter p) refl
      (λ t d. firm_in words table (lay.outer p) t (outer_firm p t d))
      (λ t d i. outer_firm p t d)
      (λ t d. turned words table (record {
        said = outer_said words table p t;
        front = outer_front words table p t d;
        spells = λ m i rest s q. outer_back words table m p t rest d i (s (outer_trails p)) q;
      }) refl)

  module _ (n : ℕ) (low : (r : ℕ) (t : Tree) → IsTree table n r t → is_deep table r ≡ true → Deep r t (tree_shown words table n r t)) where
    deeper_good : (r : ℕ) → is_deep table r ≡ true → Good words table (made (λ t. t ∷ []) (deeper (Row r))) (lay.deeper r) (show.one (λ t. one_down (tree_shown words table n r t))) (make.JustOne (IsTree table n r))
    deeper_good r i =
        one_good words table (made (λ t. t ∷ []) (deeper (Row r))) (lay.deeper r) (λ t. one_down (tree_shown words table n r t)) (IsTree table n r) refl
        (λ t d. any_head words table t)
        (λ t d j. firms t (low r t d i).node)
        (λ t d. let u = low r t d i in turned words table (record { said = u.said; front = u.front; spells = λ m j rest s q. spells t u m j rest (s refl) q }) refl)
      where
        firms : (t : Tree) → IsNode t → FirmHead (lay.deeper r) t
        firms Empty d = d
        firms (Node h a b) d = (refl, refl)

        spells : (t : Tree) → Deep r t (tree_shown words table n r t) → (m : ℕ) → suc (tree_shown words table n r t).levels ≤ m → (rest : List Sign) → next_is opens rest ≡ false → say words table rest ≡ rest → (us : Uses) × below_of table m (Row r) ((tree_shown words table n r t).signs ++ rest) t us rest
        spells t u zero j rest s q = absurd (omega (arith, j))
        spells t u (suc m) j rest s q = u.spells m (omega (arith, j)) rest s q

    module _ (b : ℕ) (rows : (r : ℕ) → Good words table (form table b r) (layout table b r) (row_shown words (tree_shown words table n) table b r) (RowMakes (IsTree table n) table b r)) where
      abbrev shows : ℕ → Shows
      shows = row_shown words (tree_shown words table n) table b

      abbrev makes : ℕ → Makes
      makes = RowMakes (IsTree table n) table b

      record Told (f g : TreesForm) (k l : Layout) : Type 0 where
        firm : is_firm k ≡ true
        later : is_firm l ≡ true
        apart : all_avoid (firsts l) k ≡ true
        stays : may_vanish g ≡ false
        begins : within (starts (table_heads table) g) (λ j. not (starts (table_heads table) f j)) ≡ true

      told : (f g : TreesForm) (k l : Layout) → choice_tells table b f g k l ≡ true → Told f g k l
      told f g k l e =
          let w = within (starts (table_heads table) g) (λ j. not (starts (table_heads table) f j)) in
          let i = and_first (is_firm k && is_firm l) (all_avoid (firsts l) k && (not (may_vanish g) && w)) e in
          let j = and_second (is_firm k && is_firm l) (all_avoid (firsts l) k && (not (may_vanish g) && w)) e in
          let c = and_second (all_avoid (firsts l) k) (not (may_vanish g) && w) j in
          record { firm = and_first (is_firm k) (is_firm l) i; later = and_second (is_firm k) (is_firm l) i; apart = and_first (all_avoid (firsts l) k) (not (may_vanish g) && w) j; stays = not-true (may_vanish g) (and_first (not (may_vanish g)) w c); begins = and_second (not (may_vanish g)) w c }

      choice : (r k : ℕ) → one_tells table b r k ≡ true → Good words table (grammar.one_of (form table b) r k) (lay.one_of (layout table b) r k) (first_of words (tree_shown words table n) (layout table b) shows r k) (OneMakes (IsTree table n) makes r k)
      choice r zero e = never_good words table
      choice r (suc k) e =
          let t = choice_tells table b (form table b r) (grammar.one_of (form table b) (r + 1) k) (layout table b r) (lay.one_of (layout table b) (r + 1) k) in
          let i = told (form table b r) (grammar.one_of (form table b) (r + 1) k) (layout table b r) (lay.one_of (layout table b) (r + 1) k) (and_first t (one_tells table b (r + 1) k) e) in
          either_good words table (rows r) (choice (r + 1) k (and_second t (one_tells table b (r + 1) k) e)) i.firm i.later i.apart i.stays i.begins

      piece_good : (p : Piece) → piece_tells table b p ≡ true → Good words table (piece_form (form table b) p) (piece_layout (layout table b) p) (piece_shown words (tree_shown words table n) (layout table b) shows p) (PieceMakes (IsTree table n) makes p)
      piece_good (piece.Sign m) e = sign_good m
      piece_good (piece.ScriptWord w) e = script_good w
      piece_good piece.Blank e = blank_good (codes " ")
      piece_good (piece.Note r) e = note_good r
      piece_good (piece.Word r) e = word_good r
      piece_good piece.Number e = number_good
      piece_good (piece.Phrase p) e = phrase_good p
      piece_good (piece.Deeper r) e = deeper_good r e
      piece_good (piece.May true r) e = absurd (cc)
      piece_good (piece.May false r) e = may_good words table (rows r) e
      piece_good (piece.Many true r) e = absurd (cc)
      piece_good (piece.Many false r) e =
          let a = all_avoid_each (firsts (layout table b r)) (ends (layout table b r)) in
          let c = not (trails (form table b r)) || is_closed (starts (table_heads table) (form table b r)) in
          let i = and_second (is_firm (layout table b r)) (a && c) e in
          many_good words table (rows r) (and_first (is_firm (layout table b r)) (a && c) e) (and_first a c i) (and_second a c i)
      piece_good (piece.Either r s) e =
          let i = told (form table b r) (form table b s) (layout table b r) (layout table b s) e in
          either_good words table (rows r) (rows s) i.firm i.later i.apart i.stays i.begins
      piece_good (piece.OneOf r k) e = choice r k e
      piece_good (piece.Chain r) e = chain_good words table (rows r)
      piece_good (piece.Over h r) e = over_good words table (rows r) h e
      piece_good (piece.Level r) e = level_good words table (rows r)

      pieces_good : (ps : List Piece) → pieces_tell table b ps ≡ true → Good words table (row_form (form table b) ps) (row_layout (layout table b) ps) (pieces_shown words (tree_shown words table n) (layout table b) shows ps) (PiecesMake (IsTree table n) makes ps)
      pieces_good [] e = blank_good []
      pieces_good (p ∷ ps) e =
          let f = piece_form (form table b) p in
          let g = row_form (form table b) ps in
          let k = piece_layout (layout table b) p in
          let l = row_layout (layout table b) ps in
          let i = and_second (piece_tells table b p) (follows table b f g k l && pieces_tell table b ps) e in
          let j = and_first (follows table b f g k l) (pieces_tell table b ps) i in
          let c = not (trails f) || is_closed (starts (table_heads table) g) in
          both_good words table (piece_good p (and_first (piece_tells table b p) (follows table b f g k l && pieces_tell table b ps) e)) (pieces_good ps (and_second (follows table b f g k l) (pieces_tell table b ps) i)) (and_first (all_avoid_each (firsts l) (ends k)) c j) (and_second (all_avoid_each (firsts l) (ends k)) c j)

    -- the rows before a bound

    abbrev RowGood : ℕ → ℕ → Type 0
    RowGood b r = Good words table (form table b r) (layout table b r) (row_shown words (tree_shown words table n) table b r) (RowMakes (IsTree table n) table b r)

    this_or_lower : (f g : TreesForm) (k l : Layout) (p q : Shows) (o m : Makes) (c : Bool) → Good words table f k p o → Good words table g l q m → Good words table (grammar.which c f g) (lay.which c k l) (λ ts. show.which words (tree_shown words table n) c p q ts) (λ ts. make.which (IsTree table n) c (o ts) (m ts))
    this_or_lower f g k l p q o m true x y = x
    this_or_lower f g k l p q o m false x y = y

    rows_good : (b : ℕ) → rows_tell table b ≡ true → (r : ℕ) → RowGood b r
    rows_good zero e r = never_good words table
    rows_good (suc b) e r =
        let ps = slice_index_or table b [] in
        let lower = rows_good b (and_second (pieces_tell table b ps) (rows_tell table b) e) in
        this_or_lower (row_form (form table b) ps) (form table b r) (row_layout (layout table b) ps) (layout table b r) (pieces_shown words (tree_shown words table n) (layout table b) (row_shown words (tree_shown words table n) table b) ps) (row_shown words (tree_shown words table n) table b r) (PiecesMake (IsTree table n) (RowMakes (IsTree table n) table b) ps) (RowMakes (IsTree table n) table b r) (r == b)
        (pieces_good b lower ps (and_first (pieces_tell table b ps) (rows_tell table b) e)) (lower r)

  -- trees

  only : (ts : List Tree) → length ts ≡ 1 → ts ≡ single ts ∷ []
  only [] e = absurd (omega (arith, e))
  only (t ∷ []) e = refl
  only (t ∷ (u ∷ ts)) e = absurd (omega (arith, e))

  firm_node : (l : Layout) (t : Tree) → FirmHead l t → IsNode t
  firm_node l Empty d = d
  firm_node l (Node h a b) d = tt

  abbrev phrase : ℕ → TreesForm
  phrase r = form table (length table) r

  abbrev looks : ℕ → Layout
  looks r = layout table (length table) r

  abbrev row_at : ℕ → ℕ → Shows
  row_at n r = row_shown words (tree_shown words table n) table (length table) r

  abbrev AllGood : ℕ → ℕ → Type 0
  AllGood n r = Good words table (phrase r) (looks r) (row_at n r) (RowMakes (IsTree table n) table (length table) r)

  -- of a row of one tree
  pub record Single (r : ℕ) (t : Tree) (x : Shown) : Type 0 where
    pub said : say words table x.signs ≡ x.signs
    pub spells : (m : ℕ) → x.levels ≤ m → (rest : List Sign) → next_is opens rest ≡ false → say words table rest ≡ rest → (us : Uses) × IsSort (table_heads table) (table_rule table) m (Row r) (x.signs ++ rest) t us rest
    pub alone : (m : ℕ) → x.levels ≤ m → (rest : List Sign) → next_is opens rest ≡ false → say words table rest ≡ rest → (us : Uses) × Spells (table_heads table) (positive m) (below_of table m) (row_phrase table r) (x.signs ++ rest) (t ∷ []) us rest

  module _ (r : ℕ) (i : is_single table r ≡ true) where
    single_of : (ts : List Tree) → (is_counted (looks r) ≡ true → length ts ≡ takes (looks r)) → ts ≡ single ts ∷ []
    single_of ts c = only ts (c (and_first (is_counted (looks r)) (takes (looks r) == 1) i) ∙ eqb-true (takes (looks r)) 1 (and_second (is_counted (looks r)) (takes (looks r) == 1) i))

    as_sort : (m : ℕ) (ss : List Sign) (ts : List Tree) (t : Tree) (us : Uses) (rest : List Sign) → single ts ≡ t → Spells (table_heads table) (positive m) (below_of table m) (phrase r) ss ts us rest → IsSort (table_heads table) (table_rule table) m (Row r) ss t us rest
    unfolding IsSort
    as_sort zero ss ts t us rest e d = (ts, d, e)
    as_sort (suc m) ss ts t us rest e d = (ts, d, e)

    module _ (n : ℕ) (t : Tree) (ts : List Tree) (e : t ≡ single ts) (g : AllGood n r) (d : RowMakes (IsTree table n) table (length table) r ts) where
      one_tree : ts ≡ t ∷ []
      one_tree = single_of ts (g.counts ts d) ∙ ap (λ z. z ∷ []) (sym e)

      row_spoken : Spoken words table (phrase r) ts (row_at n r (t ∷ []))
      row_spoken = subst (λ z. Spoken words table (phrase r) ts (row_at n r z)) (append-nil ts ∙ one_tree) (g.shows ts [] d (stops_at_end (ends (looks r))))

      row_single : Single r t (row_at n r (t ∷ []))
      row_single = record {
        said = row_spoken.said;
        spells = λ m l rest s q. let x = row_spoken.spells m l rest (λ _. s) q in (x.0, as_sort m ((row_at n r (t ∷ [])).signs ++ rest) ts t x.0 rest (sym e) x.1);
        alone = λ m l rest s q. let x = row_spoken.spells m l rest (λ _. s) q in (x.0, subst (λ z. Spells (table_heads table) (positive m) (below_of table m) (phrase r) ((row_at n r (t ∷ [])).signs ++ rest) z x.0 rest) one_tree x.1);
      }

  module _ (r : ℕ) (i : is_deep table r ≡ true) where
    abbrev begins : Bool
    begins = within (starts (table_heads table) (phrase r)) (table_heads table (Row r))

    whole : is_whole (looks r) ≡ true
    whole = and_first (is_whole (looks r)) (not (may_vanish (phrase r)) && begins) i

    is_one : is_single table r ≡ true
    is_one = and_second (is_firm (looks r)) (is_single table r) whole

    row_front : (ss : List Sign) → Front words table (starts (table_heads table) (phrase r)) (may_vanish (phrase r)) ss → Front words table (table_heads table (Row r)) false ss
    row_front [] v = absurd (let n = not-true (may_vanish (phrase r)) (and_first (not (may_vanish (phrase r))) begins (and_second (is_whole (looks r)) (not (may_vanish (phrase r)) && begins) i)) in cc)
    row_front (s ∷ ss) v = within_next (starts (table_heads table) (phrase r)) (table_heads table (Row r)) (and_second (not (may_vanish (phrase r))) begins (and_second (is_whole (looks r)) (not (may_vanish (phrase r)) && begins) i)) (s ∷ ss) v

    row_deep : (n : ℕ) (t : Tree) (ts : List Tree) → t ≡ single ts → AllGood n r → RowMakes (IsTree table n) table (length table) r ts → Deep r t (row_at n r (t ∷ []))
    row_deep n t ts e g d =
        let u = row_single r is_one n t ts e g d in
        let v = row_spoken r is_one n t ts e g d in
        record {
          node = firm_node (looks r) t (subst (Firm (looks r)) (one_tree r is_one n t ts e g d) (g.firm ts d (and_first (is_firm (looks r)) (is_single table r) whole)));
          said = u.said;
          front = row_front (row_at n r (t ∷ [])).signs v.front;
          spells = u.spells;
        }

  tree_deep : tells_apart table ≡ true → (n r : ℕ) (t : Tree) → IsTree table n r t → is_deep table r ≡ true → Deep r t (tree_shown words table n r t)
  unfolding IsTree tree_shown
  tree_deep e zero r t d i = absurd d
  tree_deep e (suc n) r t d i = row_deep r i n t d.0 d.1 (rows_good n (tree_deep e n) (length table) e r) d.2

  pub tree_single : tells_apart table ≡ true → (n r : ℕ) (t : Tree) → IsTree table n r t → is_single table r ≡ true → Single r t (tree_shown words table n r t)
  unfolding IsTree tree_shown
  tree_single e zero r t d i = absurd d
  tree_single e (suc n) r t d i = row_single r i n t d.0 d.1 (rows_good n (tree_deep e n) (length table) e r) d.2
