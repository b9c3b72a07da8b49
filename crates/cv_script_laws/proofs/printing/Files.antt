-- What a phrase of files spells in a script it spells by the rows of files, in which names may have marks, and is known and
-- written there.
use Rattle.std.proofs.Common.{◌≡◌, ℕ, zero, suc, Bool, true, false, nat_lt, ◌&&◌, List, [], ◌∷◌, Option, Some, None, inl, inr, refl, sym, ◌∙◌}
use Rattle.std.proofs.lemmas.Bool.{and_from, and_parts}
use Rattle.std.specs.List.{AllByRecursion}
use Rattle.cv_syntax_trees.proofs.lists.Each.{AllByRecursion_always}
use Rattle.cv_syntax_trees.specs.declared.head.Head.{Head}
use Rattle.cv_syntax_trees.specs.declared.head.Head.TheVariants.{Number}
use Rattle.cv_syntax_trees.specs.Tree.{Tree, Empty, Node}
use Rattle.cv_parse_notation.specs.declared.sign.Sign.{Sign}
use Rattle.cv_parse_notation.specs.Form.{sign, script_word, word, number, nought, find_word, unnamed, other, note, both, may, many, either, made, level, deeper}
use Rattle.cv_parse_notation.specs.Spells.{Each, IsSort, Kind, Perhaps, Relation, Spells, next_is, no_sort, starts}
use Rattle.cv_parse_notation.specs.Whole.{SpellsWith}
use Rattle.cv_parse_grammar.specs.Names.{Uses}
use Rattle.cv_parse_grammar.specs.Marks.{marked_rule, plain, plain_cell, plain_head}
use Rattle.cv_parse_grammar.specs.Phrases.{Phrase, Sort}
use Rattle.cv_parse_grammar.specs.Phrases as sort
use Rattle.cv_parse_grammar.specs.Rules.{heads}
use Rattle.cv_parse_grammar.specs.Terms.{arguments, terms}
use Rattle.cv_parse_grammar.specs.declared.role.Role.{Role}
use Rattle.cv_parse_laws.specs.Words.{AreNamed, IsNamed}
use Rattle.cv_parse_grammar.specs.yields.Yields.{Yields}
use Rattle.cv_parse_laws.proofs.Tokens as tokens
use Rattle.cv_script_laws.proofs.forms.Fitting.{deep_rule}
use Rattle.cv_script_laws.proofs.printing.WrittenRows.{Names, WrittenOfSort, of_some_terms, rows as written_rows}
use Rattle.cv_parse_tables.specs.declared.piece.Outer.{Outer}
use Rattle.cv_parse_tables.specs.declared.piece.Outer.TheVariants as outer
use Rattle.cv_parse_tables.specs.Table.{OfFiles, TableSort, carried, outer_form, table_heads}
use Rattle.cv_parse_tables.proofs.Carrying.{carried_starts}
use Rattle.cv_print_bytes.specs.Known.{head_is_named, is_named}
use Rattle.cv_print_bytes.proofs.numbers.Numbering.{AreSmall, Holds, IsSmall, forms_tell}
use Rattle.cv_print_bytes.proofs.numbers.NumberRows.{SmallOf, marked_rows as number_rows}
use Rattle.cv_print_scripts.specs.Known.{head_is_known, is_known}
use Rattle.cv_print_scripts.specs.steps.Trees.{IsOuter}
use Rattle.cv_print_bytes.specs.terminals.Written.{is_name}
use Rattle.cv_scope_rules.specs.Phrases as phrase
use Rattle.cv_scope_rules.specs.Phrases.{both_are, is_phrase, parts}
use Rattle.cv_script.specs.rows.Rows.{script_rows}

-- the same phrase

next_same : {A : Type 0} (f : Phrase A) (ts : List Sign) → next_is (starts (table_heads script_rows) (carried f)) ts ≡ next_is (starts heads f) ts
next_same f [] = refl
next_same f (t ∷ ts) = carried_starts script_rows 8 f _

perhaps_same : {A : Type 0} (P Q : Relation Role A) (near : Bool) (k l : Kind → Bool) → ((ts : List Sign) → next_is k ts ≡ next_is l ts) → ((ts : List Sign) (a : A) (us : Uses) (rest : List Sign) → P ts a us rest → Q ts a us rest) → (ts : List Sign) (o : Option A) (us : Uses) (rest : List Sign) → Perhaps P near k ts o us rest → Perhaps Q near l ts o us rest
perhaps_same P Q near k l s q ts None us rest d = (d.0, λ n. sym (s ts) ∙ d.1 n)
perhaps_same P Q near k l s q ts (Some a) us rest d = q ts a us rest d

each_same : {A : Type 0} (P Q : Relation Role A) (near : Bool) (k l : Kind → Bool) → ((ts : List Sign) → next_is k ts ≡ next_is l ts) → ((ts : List Sign) (a : A) (us : Uses) (rest : List Sign) → P ts a us rest → Q ts a us rest) → (ts : List Sign) (xs : List A) (us : Uses) (rest : List Sign) → Each P near k ts xs us rest → Each Q near l ts xs us rest
each_same P Q near k l s q ts [] us rest d = (d.0, λ n. sym (s ts) ∙ d.1 n)
each_same P Q near k l s q ts (a ∷ xs) us rest d = record { mid = d.mid; front = d.front; back = d.back; first = q ts a d.front d.mid d.first; second = each_same P Q near k l s q d.mid xs d.back rest d.second; uses = d.uses }

module _ (room : Bool) (low : TableSort → Relation Role Tree) (below : Sort → Relation Role Tree) (same : (s : Sort) (ts : List Sign) (t : Tree) (us : Uses) (rest : List Sign) → low (OfFiles s) ts t us rest → below s ts t us rest) where
  form_same : {A : Type 0} (f : Phrase A) (ts : List Sign) (a : A) (us : Uses) (rest : List Sign) → Spells (table_heads script_rows) room low (carried f) ts a us rest → Spells heads room below f ts a us rest
  form_same (sign m) ts a us rest d = d
  form_same (script_word w) ts a us rest d = d
  form_same (word r) ts a us rest d = d
  form_same number ts a us rest d = d
  form_same nought ts a us rest d = d
  form_same find_word ts a us rest d = d
  form_same (unnamed r) ts a us rest d = d
  form_same other ts a us rest d = d
  form_same (note r) ts a us rest d = d
  form_same (both f g) ts a us rest d = record { mid = d.mid; front = d.front; back = d.back; first = form_same f ts a.0 d.front d.mid d.first; second = form_same g d.mid a.1 d.back rest d.second; uses = d.uses }
  form_same (may near f) ts a us rest d = perhaps_same (Spells (table_heads script_rows) room low (carried f)) (Spells heads room below f) near (starts (table_heads script_rows) (carried f)) (starts heads f) (next_same f) (form_same f) ts a us rest d
  form_same (many near f) ts a us rest d = each_same (Spells (table_heads script_rows) room low (carried f)) (Spells heads room below f) near (starts (table_heads script_rows) (carried f)) (starts heads f) (next_same f) (form_same f) ts a us rest d
  form_same (either f g) ts a us rest d = elim d as (λ _. Spells heads room below (either f g) ts a us rest) [ inl e ↦ inl (form_same f ts a us rest e) | inr e ↦ inr (sym (next_same f ts) ∙ e.0, form_same g ts a us rest e.1) ]
  form_same (made v f) ts a us rest d = (d.0, form_same f ts d.0 us rest d.1, d.2)
  form_same (level f) ts a us rest d = (d.0, form_same f ts a us rest d.1)
  form_same (deeper s) ts a us rest d = same s ts a us rest d

sort_same : (n : ℕ) (s : Sort) (ts : List Sign) (t : Tree) (us : Uses) (rest : List Sign) → IsSort (table_heads script_rows) deep_rule n (OfFiles s) ts t us rest → IsSort heads marked_rule n s ts t us rest
unfolding IsSort
sort_same zero s ts t us rest d = form_same false no_sort no_sort (λ s ts t us rest e. e) (marked_rule s) ts t us rest d
sort_same (suc n) s ts t us rest d = form_same true (IsSort (table_heads script_rows) deep_rule n) (IsSort heads marked_rule n) (sort_same n) (marked_rule s) ts t us rest d

with_same : {A : Type 0} (f : Phrase A) (n : ℕ) (ts : List Sign) (a : A) (us : Uses) (rest : List Sign) → SpellsWith (table_heads script_rows) deep_rule (carried f) n ts a us rest → SpellsWith heads marked_rule f n ts a us rest
with_same f n ts a us rest d = form_same true (IsSort (table_heads script_rows) deep_rule n) (IsSort heads marked_rule n) (sort_same n) f ts a us rest d

-- a phrase of a game has no number, so that it is known where it is named

no_number : (φ : phrase.Phrase) (v : ℕ) → parts φ (Number v) ≡ None
no_number phrase.Nil v = refl
no_number φ v = refl

head_known : (count : ℕ) (φ : phrase.Phrase) (h : Head) (q : phrase.Phrase × phrase.Phrase) → parts φ (plain_head true h) ≡ Some q → head_is_named count h ≡ true → head_is_known count h ≡ true
head_known count φ (Number v) q e n = absurd (let f = sym (no_number φ v) ∙ e in cc)
head_known count φ h q e n = n

phrase_known : (count : ℕ) (φ : phrase.Phrase) (t : Tree) → is_phrase φ (plain true t) ≡ true → is_named count t ≡ true → is_known count t ≡ true
unfolding is_phrase is_named is_known plain
phrase_known count φ Empty p n = refl
phrase_known count φ (Node h a b) p n = by_parts (parts φ (plain_head true h)) refl p (λ ψ. phrase_known count ψ a) (λ ψ. phrase_known count ψ b) where
  by_parts : (q : Option (phrase.Phrase × phrase.Phrase)) → parts φ (plain_head true h) ≡ q → both_are q (λ τ. is_phrase τ (plain true a)) (λ ρ. is_phrase ρ (plain true b)) ≡ true → ((ψ : phrase.Phrase) → is_phrase ψ (plain true a) ≡ true → is_named count a ≡ true → is_known count a ≡ true) → ((ψ : phrase.Phrase) → is_phrase ψ (plain true b) ≡ true → is_named count b ≡ true → is_known count b ≡ true) → (head_is_known count h && (is_known count a && is_known count b)) ≡ true
  by_parts None e p of_a of_b = absurd (cc)
  by_parts (Some q) e p of_a of_b =
      let here = and_parts (is_phrase q.0 (plain true a)) (is_phrase q.1 (plain true b)) p in
      let named = and_parts (head_is_named count h) (is_named count a && is_named count b) n in
      let below = and_parts (is_named count a) (is_named count b) named.1 in
      and_from (head_is_known count h) (is_known count a && is_known count b) (head_known count φ h q e named.0)
      (and_from (is_known count a) (is_known count b) (of_a q.0 here.0 below.0) (of_b q.1 here.1 below.1))

cell_head_known : (count : ℕ) (h : Head) (q : phrase.Phrase × phrase.Phrase) → parts phrase.OneCell h ≡ Some q → head_is_named count h ≡ true → head_is_known count h ≡ true
cell_head_known count (Number v) q e n = absurd (let f = sym (no_number phrase.OneCell v) ∙ e in cc)
cell_head_known count h q e n = n

cell_known : (count : ℕ) (t : Tree) → is_phrase phrase.OneCell (plain_cell true t) ≡ true → is_named count t ≡ true → is_known count t ≡ true
unfolding is_phrase is_named is_known
cell_known count Empty p n = refl
cell_known count (Node h a b) p n = by_parts (parts phrase.OneCell h) refl p where
  by_parts : (q : Option (phrase.Phrase × phrase.Phrase)) → parts phrase.OneCell h ≡ q → both_are q (λ τ. is_phrase τ (plain true a)) (λ ρ. is_phrase ρ (plain true b)) ≡ true → (head_is_known count h && (is_known count a && is_known count b)) ≡ true
  by_parts None e p = absurd (cc)
  by_parts (Some q) e p =
      let here = and_parts (is_phrase q.0 (plain true a)) (is_phrase q.1 (plain true b)) p in
      let named = and_parts (head_is_named count h) (is_named count a && is_named count b) n in
      let below = and_parts (is_named count a) (is_named count b) named.1 in
      and_from (head_is_known count h) (is_known count a && is_known count b) (cell_head_known count h q e named.0)
      (and_from (is_known count a) (is_known count b) (phrase_known count q.0 a here.0 below.0) (phrase_known count q.1 b here.1 below.1))

-- the tree is known, and is what a phrase of files is

-- a name is no `bool` and below the count, and a number fits
abbrev pub IsGood : ℕ → Sign → Type 0
IsGood count s = IsNamed s × IsSmall count s

abbrev pub AreGood : ℕ → List Sign → Type 0
AreGood count ts = AllByRecursion (IsGood count) ts

named_of : (count : ℕ) (ts : List Sign) → AreGood count ts → AreNamed ts
named_of count [] w = tt
named_of count (s ∷ ts) w = (w.0.0, named_of count ts w.1)

small_of : (count : ℕ) (ts : List Sign) → AreGood count ts → AreSmall count ts
small_of count [] w = tt
small_of count (s ∷ ts) w = (w.0.1, small_of count ts w.1)

good_of : (count : ℕ) (ts : List Sign) → AreNamed ts → AreSmall count ts → AreGood count ts
good_of count [] v w = tt
good_of count (s ∷ ts) v w = ((v.0, w.0), good_of count ts v.1 w.1)

-- terms stand between the parentheses of arguments
holds_bracket : (count : ℕ) (P : Sort → Tree → Type 0) (t : Tree) → Holds count P terms t → Holds count P arguments t
holds_bracket count P t y = ((tt, t), (tt, ((t, tt), (y, tt), refl)), refl)

module _ (count : ℕ) (some : nat_lt 0 count ≡ true) where
  abbrev pub IsText : Outer → Tree → Type 0
  IsText p t = IsOuter p t × (is_known count t ≡ true)

  text_is : (p : Outer) (t : Tree) → Yields Names WrittenOfSort (outer_form p) t → Holds count (SmallOf count some) (outer_form p) t → IsText p t
  text_is outer.Term t y z =
      let s = written_rows sort.Term t y in
      (s, phrase_known count phrase.Term t s.phrase (number_rows count some sort.Term t z).named)
  text_is outer.Terms t y z =
      let s = of_some_terms t y in
      (s, phrase_known count phrase.Terms t s.written.phrase (number_rows count some sort.Arguments t (holds_bracket count (SmallOf count some) t z)).named)
  text_is outer.InnerTerm t y z = (y, phrase_known count phrase.Term t y.phrase z.named)
  text_is outer.InnerSubscript t y z = (y, phrase_known count phrase.Terms t y.written.phrase z.named)
  text_is outer.Cell t y z =
      let s = written_rows sort.OneCell t y in
      (s, cell_known count t s.phrase (number_rows count some sort.OneCell t z).named)
  text_is outer.InnerCell t y z = (y, cell_known count t y.phrase z.named)

  -- what good tokens spell as a phrase of files
  pub text_is_known : (n : ℕ) (p : Outer) (ts : List Sign) (t : Tree) (us : Uses) (rest : List Sign) → SpellsWith (table_heads script_rows) deep_rule (carried (outer_form p)) n ts t us rest → AreGood count ts → IsText p t × AreGood count rest
  text_is_known n p ts t us rest d w =
      let e = with_same (outer_form p) n ts t us rest d in
      let y = tokens.forms_tell WrittenOfSort heads marked_rule written_rows (outer_form p) n ts t us rest e (named_of count ts w) in
      let z = forms_tell count (SmallOf count some) marked_rule (number_rows count some) (outer_form p) n ts t us rest e (small_of count ts w) in
      (text_is p t y.0 z.0, good_of count rest y.1 z.1)
