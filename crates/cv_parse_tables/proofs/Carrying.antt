-- A phrase of files reads in a table what it reads by the rows of files, in which names may have marks.
use Rattle.std.proofs.Common.{◌≡◌, ℕ, zero, suc, Bool, true, false, List, [], ◌∷◌, length, ◌&&◌, ◌||◌, refl, ap, ap₂, ◌∙◌, Ok, Err, Some, None}
use Rattle.cv_syntax_trees.specs.Tree.{Tree}
use Rattle.cv_parse_notation.specs.declared.sign.Sign.{Sign}
use Rattle.cv_parse_notation.specs.Form.{Form, sign, script_word, word, number, nought, find_word, unnamed, other, note, both, may, many, either, made, level, deeper}
use Rattle.cv_parse_notation.specs.Spells.{Kind, may_vanish, starts, starts_both, next_is}
use Rattle.cv_parse_notation.specs.Reads.{Read, Reader, Found, ◌>>=◌, pick, nothing, no_level, no_syntax, joined, mapped, one_more, read_many, reads, read_sort, too_deep}
use Rattle.cv_parse_grammar.specs.declared.role.Role.{Role}
use Rattle.cv_parse_grammar.specs.Marks.{marked_rule}
use Rattle.cv_parse_grammar.specs.Phrases.{Sort}
use Rattle.cv_parse_grammar.specs.Rules.{heads}
use Rattle.cv_parse_terms.specs.Gives.{positive, below_marked, read_marked}
use Rattle.cv_parse_tables.specs.declared.piece.Outer.{Outer}
use Rattle.cv_parse_tables.specs.declared.piece.Outer.TheVariants as outer
use Rattle.cv_parse_tables.specs.Table.{Table, TableSort, OfFiles, carried, outer_form, fronts, table_heads, table_rule, table_below, table_reads}

-- it vanishes and begins as it does there

pub carried_vanishes : {A : Type 0} (f : Form Role Sort A) → may_vanish (carried f) ≡ may_vanish f
carried_vanishes (sign m) = refl
carried_vanishes (script_word w) = refl
carried_vanishes (word r) = refl
carried_vanishes number = refl
carried_vanishes nought = refl
carried_vanishes find_word = refl
carried_vanishes (unnamed r) = refl
carried_vanishes other = refl
carried_vanishes (note r) = refl
carried_vanishes (both f g) = ap₂ ◌&&◌ (carried_vanishes f) (carried_vanishes g)
carried_vanishes (may near f) = refl
carried_vanishes (many near f) = refl
carried_vanishes (either f g) = ap₂ ◌||◌ (carried_vanishes f) (carried_vanishes g)
carried_vanishes (made v f) = carried_vanishes f
carried_vanishes (level f) = carried_vanishes f
carried_vanishes (deeper s) = refl

both_same : (a b : Bool) (p q p' q' : Kind → Bool) (k : Kind) → a ≡ b → p k ≡ p' k → q k ≡ q' k → starts_both a p q k ≡ starts_both b p' q' k
both_same true true p q p' q' k h i j = ap₂ ◌||◌ i j
both_same false false p q p' q' k h i j = i
both_same true false p q p' q' k h i j = absurd (cc)
both_same false true p q p' q' k h i j = absurd (cc)

pub carried_starts : (table : Table) (n : ℕ) {A : Type 0} (f : Form Role Sort A) (k : Kind) → starts (fronts table n) (carried f) k ≡ starts heads f k
carried_starts table n (sign m) k = refl
carried_starts table n (script_word w) k = refl
carried_starts table n (word r) k = refl
carried_starts table n number k = refl
carried_starts table n nought k = refl
carried_starts table n find_word k = refl
carried_starts table n (unnamed r) k = refl
carried_starts table n other k = refl
carried_starts table n (note r) k = refl
carried_starts table n (both f g) k = both_same (may_vanish (carried f)) (may_vanish f) (starts (fronts table n) (carried f)) (starts (fronts table n) (carried g)) (starts heads f) (starts heads g) k (carried_vanishes f) (carried_starts table n f k) (carried_starts table n g k)
carried_starts table n (may near f) k = carried_starts table n f k
carried_starts table n (many near f) k = carried_starts table n f k
carried_starts table n (either f g) k = ap₂ ◌||◌ (carried_starts table n f k) (carried_starts table n g k)
carried_starts table n (made v f) k = carried_starts table n f k
carried_starts table n (level f) k = carried_starts table n f k
carried_starts table n (deeper s) k = refl

next_same : {A : Type 0} (table : Table) (f : Form Role Sort A) (ts : List Sign) → next_is (starts (table_heads table) (carried f)) ts ≡ next_is (starts heads f) ts
next_same table f [] = refl
next_same table f (t ∷ ts) = carried_starts table 8 f _

-- readers that read the same
bind_same : {A B : Type 0} (r s : Read Role A) (f g : Found Role A → Read Role B) → r ≡ s → ((x : Found Role A) → f x ≡ g x) → (r >>= f) ≡ (s >>= g)
bind_same r (Ok x) f g h i = ap (λ y. y >>= f) h ∙ i x
bind_same r (Err e) f g h i = ap (λ y. y >>= f) h

pick_same : {A : Type 0} (b c : Bool) (p q p' q' : Reader Role A) (ts : List Sign) → b ≡ c → p ts ≡ p' ts → q ts ≡ q' ts → pick b p q ts ≡ pick c p' q' ts
pick_same true true p q p' q' ts h i j = i
pick_same false false p q p' q' ts h i j = j
pick_same true false p q p' q' ts h i j = absurd (cc)
pick_same false true p q p' q' ts h i j = absurd (cc)

many_same : {A : Type 0} (k l : Kind → Bool) (p q : Reader Role A) → ((ts : List Sign) → next_is k ts ≡ next_is l ts) → ((ts : List Sign) → p ts ≡ q ts) → (n : ℕ) (ts : List Sign) → read_many k p n ts ≡ read_many l q n ts
many_same k l p q h i zero ts = refl
many_same k l p q h i (suc n) ts =
    pick_same (next_is k ts) (next_is l ts) (λ us. p us >>= λ x. read_many k p n x.rest >>= one_more x) (nothing []) (λ us. q us >>= λ x. read_many l q n x.rest >>= one_more x) (nothing []) ts (h ts)
    (bind_same (p ts) (q ts) (λ x. read_many k p n x.rest >>= one_more x) (λ x. read_many l q n x.rest >>= one_more x) (i ts) (λ x. ap (λ r. r >>= one_more x) (many_same k l p q h i n x.rest)))
    refl

carried_reads : (table : Table) (room : Bool) (one : TableSort → Reader Role Tree) (two : Sort → Reader Role Tree) → ((s : Sort) (ts : List Sign) → one (OfFiles s) ts ≡ two s ts) → {A : Type 0} (f : Form Role Sort A) (ts : List Sign) → reads (table_heads table) room one (carried f) ts ≡ reads heads room two f ts
carried_reads table room one two h (sign m) ts = refl
carried_reads table room one two h (script_word w) ts = refl
carried_reads table room one two h (word r) ts = refl
carried_reads table room one two h number ts = refl
carried_reads table room one two h nought ts = refl
carried_reads table room one two h find_word ts = refl
carried_reads table room one two h (unnamed r) ts = refl
carried_reads table room one two h other ts = refl
carried_reads table room one two h (note r) ts = refl
carried_reads table room one two h (both f g) ts =
    bind_same (reads (table_heads table) room one (carried f) ts) (reads heads room two f ts) (λ x. reads (table_heads table) room one (carried g) x.rest >>= joined x) (λ x. reads heads room two g x.rest >>= joined x)
    (carried_reads table room one two h f ts) (λ x. ap (λ r. r >>= joined x) (carried_reads table room one two h g x.rest))
carried_reads table room one two h (may near f) ts =
    pick_same (next_is (starts (table_heads table) (carried f)) ts) (next_is (starts heads f) ts) (λ us. reads (table_heads table) room one (carried f) us >>= mapped Some) (nothing None) (λ us. reads heads room two f us >>= mapped Some) (nothing None) ts
    (next_same table f ts) (ap (λ r. r >>= mapped Some) (carried_reads table room one two h f ts)) refl
carried_reads table room one two h (many near f) ts = many_same (starts (table_heads table) (carried f)) (starts heads f) (reads (table_heads table) room one (carried f)) (reads heads room two f) (next_same table f) (carried_reads table room one two h f) (length ts) ts
carried_reads table room one two h (either f g) ts =
    pick_same (next_is (starts (table_heads table) (carried f)) ts) (next_is (starts heads f) ts) (reads (table_heads table) room one (carried f)) (reads (table_heads table) room one (carried g)) (reads heads room two f) (reads heads room two g) ts
    (next_same table f ts) (carried_reads table room one two h f ts) (carried_reads table room one two h g ts)
carried_reads table room one two h (made v f) ts = ap (λ r. r >>= mapped v) (carried_reads table room one two h f ts)
carried_reads table room one two h (level f) ts =
    pick_same room room (reads (table_heads table) room one (carried f)) (pick (next_is (starts (table_heads table) (carried f)) ts) no_level no_syntax) (reads heads room two f) (pick (next_is (starts heads f) ts) no_level no_syntax) ts
    refl (carried_reads table room one two h f ts) (ap (λ b. pick b no_level no_syntax ts) (next_same table f ts))
carried_reads table room one two h (deeper s) ts = h s ts

-- a sort of files reads what it reads there
outer_sort : (table : Table) (n : ℕ) (s : Sort) (ts : List Sign) → read_sort (table_heads table) (table_rule table) n (OfFiles s) ts ≡ read_sort heads marked_rule n s ts
unfolding read_sort
outer_sort table zero s ts = carried_reads table false (too_deep (table_heads table)) (too_deep heads) (λ q us. refl) (marked_rule s) ts
outer_sort table (suc n) s ts = carried_reads table true (read_sort (table_heads table) (table_rule table) n) (read_sort heads marked_rule n) (outer_sort table n) (marked_rule s) ts

outer_below : (table : Table) (n : ℕ) (s : Sort) (ts : List Sign) → table_below table n (OfFiles s) ts ≡ below_marked n s ts
outer_below table zero s ts = refl
outer_below table (suc n) s ts = outer_sort table n s ts

pub outer_reads : (table : Table) (n : ℕ) {A : Type 0} (f : Form Role Sort A) (ts : List Sign) → table_reads table n (carried f) ts ≡ read_marked n f ts
outer_reads table n f ts = carried_reads table (positive n) (table_below table n) (below_marked n) (outer_below table n) f ts

pub outer_vanishes : (p : Outer) → may_vanish (carried (outer_form p)) ≡ false
outer_vanishes outer.Term = refl
outer_vanishes outer.Terms = refl
outer_vanishes outer.InnerTerm = refl
outer_vanishes outer.InnerSubscript = refl
outer_vanishes outer.Cell = refl
outer_vanishes outer.InnerCell = refl

pub ruleset carrying = (carried_starts, outer_vanishes)
