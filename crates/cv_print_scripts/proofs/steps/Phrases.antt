-- Phrases of files in a row: their heads, and the signs that they begin with.
use Rattle.std.proofs.Common.{◌≡◌, ℕ, zero, suc, true, false, List, [], ◌∷◌, ◌++◌, refl, ap, subst, ◌∙◌, arith}
use Rattle.std.proofs.lemmas.Bool.{both_ways}
use Rattle.std.proofs.lemmas.List.{append-nil}
use Rattle.cv_syntax_trees.specs.declared.head.Head.{Head}
use Rattle.cv_syntax_trees.specs.declared.head.Head.TheVariants.{Leaf, Primed, Read, Apply, Eq, And, Or, Not, Yes, No}
use Rattle.cv_syntax_trees.specs.Tree.{Tree, Empty, Node}
use Rattle.cv_parse_notation.specs.declared.sign.Sign.{Sign}
use Rattle.cv_parse_notation.specs.declared.sign.Sign.TheVariants as token
use Rattle.cv_parse_notation.specs.Spells.{IsSort, may_vanish, next_is, starts}
use Rattle.cv_parse_notation.proofs.Complete.{begins_with}
use Rattle.cv_parse_notation.proofs.Sorts.{begins}
use Rattle.cv_parse_grammar.specs.Names.{Uses}
use Rattle.cv_parse_grammar.specs.Marks.{marked_rule, marked_tails, plain, plain_cell}
use Rattle.cv_parse_grammar.specs.Phrases.{Sort}
use Rattle.cv_parse_grammar.specs.Rules.{heads}
use Rattle.cv_parse_grammar.proofs.Fitting.{all_marked_fit}
use Rattle.cv_parse_terms.specs.Gives.{positive}
use Rattle.cv_parse_tables.specs.declared.piece.Outer.{Outer}
use Rattle.cv_parse_tables.specs.declared.piece.Outer.TheVariants as outer
use Rattle.cv_parse_tables.specs.Table.{Table, carried, outer_form, table_heads}
use Rattle.cv_print_tables.specs.Layout as lay
use Rattle.cv_print_tables.specs.Prints.{is_outer, is_term}
use Rattle.cv_scope_rules.specs.Phrases.{OneCell, Term, is_phrase}
use Rattle.cv_print_bytes.specs.terminals.Written.{IsWritten, has_items}
use Rattle.cv_print_scripts.specs.steps.Apart.{ATerm, firsts, one_is_first, trails}
use Rattle.cv_print_scripts.specs.steps.Shown.{Words, outer_levels, outer_signs}
use Rattle.cv_print_scripts.specs.steps.Trees.{IsOuter}
use Rattle.cv_print_scripts.proofs.steps.Files.{next_alike, outers_are_quiet}
use Rattle.cv_print_scripts.proofs.steps.Good.{FirmHead, Front, say}
use Rattle.cv_print_scripts.proofs.steps.Outer.{Lower, file_back}

pub outer_trails : (p : Outer) → trails (carried (outer_form p)) ≡ true
outer_trails outer.Term = refl
outer_trails outer.Terms = refl
outer_trails outer.InnerTerm = refl
outer_trails outer.InnerSubscript = refl
outer_trails outer.Cell = refl
outer_trails outer.InnerCell = refl

-- heads

term_firm : (t : Tree) → IsWritten Term (plain true t) → FirmHead (lay.outer outer.Term) t
unfolding is_phrase plain
term_firm (Node (Primed x) a b) w = (refl, refl)
term_firm (Node (Leaf x) a b) w = (refl, refl)
term_firm (Node (Read x) a b) w = (refl, refl)
term_firm (Node (Apply f) a b) w = (refl, refl)
term_firm (Node Eq a b) w = (refl, refl)
term_firm (Node And a b) w = (refl, refl)
term_firm (Node Or a b) w = (refl, refl)
term_firm (Node Not a b) w = (refl, refl)
term_firm (Node Yes a b) w = (refl, refl)
term_firm (Node No a b) w = (refl, refl)
term_firm t w = absurd (both_ways _ refl w.phrase)

cell_firm : (t : Tree) → IsWritten OneCell (plain_cell true t) → FirmHead (lay.outer outer.Term) t
unfolding is_phrase
cell_firm (Node (Leaf x) a b) w = (refl, refl)
cell_firm (Node (Read x) a b) w = (refl, refl)
cell_firm t w = absurd (both_ways _ refl w.phrase)

terms_firm : (t : Tree) → has_items t ≡ true → FirmHead (lay.outer outer.Terms) t
terms_firm Empty e = absurd (cc)
terms_firm (Node h a b) e = (refl, refl)

-- every phrase but a list is told as a term
told_alike : (p : Outer) (t : Tree) → firsts (lay.outer p) ≡ ATerm ∷ [] → ((h : Head) → is_outer p h ≡ is_term h) → FirmHead (lay.outer outer.Term) t → FirmHead (lay.outer p) t
told_alike p Empty e i d = d
told_alike p (Node h a b) e i d = (ap (λ ps. one_is_first ps h) e ∙ d.0, i h ∙ d.1)

pub outer_firm : (p : Outer) (t : Tree) → IsOuter p t → FirmHead (lay.outer p) t
outer_firm outer.Term t w = term_firm t w
outer_firm outer.Terms t w = terms_firm t w.some
outer_firm outer.InnerTerm t w = told_alike outer.InnerTerm t refl (λ h. refl) (term_firm t w)
outer_firm outer.InnerSubscript t w = told_alike' t (terms_firm t w.some)
  where
    told_alike' : (t : Tree) → FirmHead (lay.outer outer.Terms) t → FirmHead (lay.outer outer.InnerSubscript) t
    told_alike' Empty d = d
    told_alike' (Node h a b) d = (refl, refl)
outer_firm outer.Cell t w = told_alike outer.Cell t refl (λ h. refl) (cell_firm t w)
outer_firm outer.InnerCell t w = told_alike outer.InnerCell t refl (λ h. refl) (cell_firm t w)

-- signs

lower_begins : (m : ℕ) (s : Sort) (ts : List Sign) (t : Tree) (us : Uses) (rest : List Sign) → Lower (IsSort heads marked_rule) m s ts t us rest → next_is (heads s) ts ≡ true
lower_begins zero s ts t us rest d = absurd d
lower_begins (suc n) s ts t us rest d = begins heads marked_tails marked_rule all_marked_fit n s ts t us rest d

stays : (p : Outer) → may_vanish (outer_form p) ≡ false
stays outer.Term = refl
stays outer.Terms = refl
stays outer.InnerTerm = refl
stays outer.InnerSubscript = refl
stays outer.Cell = refl
stays outer.InnerCell = refl

file_begins : (p : Outer) (t : Tree) → IsOuter p t → next_is (starts heads (outer_form p)) (outer_signs p t) ≡ true
file_begins p t w =
    let m = outer_levels p t in
    let d = file_back t [] refl m p w (omega arith) in
    subst (λ z. next_is (starts heads (outer_form p)) z ≡ true) (append-nil (outer_signs p t)) (begins_with heads (positive m) (Lower (IsSort heads marked_rule) m) (lower_begins m) (outer_form p) (stays p) (outer_signs p t ++ []) t d.0 [] d.1)

module _ (words : Words) (table : Table) where
  pub outer_front : (p : Outer) (t : Tree) → IsOuter p t → Front words table (starts (table_heads table) (carried (outer_form p))) (may_vanish (carried (outer_form p))) (say words table (outer_signs p t))
  outer_front p t w = from (say words table (outer_signs p t)) (next_alike words table (outer_form p) (outers_are_quiet p) (outer_signs p t) ∙ file_begins p t w)
    where
      from : (ss : List Sign) → next_is (starts (table_heads table) (carried (outer_form p))) ss ≡ true → Front words table (starts (table_heads table) (carried (outer_form p))) (may_vanish (carried (outer_form p))) ss
      from [] e = absurd (cc)
      from (s ∷ ss) e = e

  twice : (ss : List Sign) → say words table (say words table ss) ≡ say words table ss
  twice [] = refl
  twice (token.Word x w ∷ ss) = ap (λ l. token.Word x (words.script x) ∷ l) (twice ss)
  twice (token.Number v ∷ ss) = ap (λ l. token.Number v ∷ l) (twice ss)
  twice (token.Find k ∷ ss) = ap (λ l. token.Find k ∷ l) (twice ss)
  twice (token.Unnamed x ∷ ss) = ap (λ l. token.Unnamed x ∷ l) (twice ss)
  twice (token.Mark m ∷ ss) = ap (λ l. token.Mark m ∷ l) (twice ss)

  pub outer_said : (p : Outer) (t : Tree) → say words table (say words table (outer_signs p t)) ≡ say words table (outer_signs p t)
  outer_said p t = twice (outer_signs p t)
