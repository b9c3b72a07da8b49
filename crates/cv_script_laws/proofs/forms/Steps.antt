-- The trees that the rows of steps make have items.
use Rattle.std.proofs.Common.{◌≡◌, ℕ, suc, ◌+◌, ◌≤◌, ◌==◌, ◌&&◌, Bool, true, false, not, nat_lt, ◌⊎◌, inl, inr, List, [], ◌∷◌, ◌++◌, Option, Some, Ok, append-nil, arith, eqb-true, lit≤, lt-ltb, refl, ap, sym, ◌∙◌, subst}
use Rattle.std.proofs.lemmas.Bool.{and_parts}
use Rattle.std.specs.List.{AllByRecursion}
use Rattle.cv_syntax_trees.proofs.lists.Each.{AllByRecursion_always}
use Rattle.cv_syntax_trees.specs.declared.head.Head.{Head}
use Rattle.cv_syntax_trees.specs.declared.head.Head.TheVariants as head
use Rattle.cv_syntax_trees.specs.Children.{is_empty}
use Rattle.cv_syntax_trees.specs.Tree.{Tree, Empty, Node, chain, first, lone, second}
use Rattle.cv_parse_notation.specs.declared.sign.Sign.{Sign}
use Rattle.cv_parse_notation.specs.Spells.{IsSort}
use Rattle.cv_parse_notation.specs.Whole.{SpellsWith}
use Rattle.cv_parse_grammar.specs.Files.{levels}
use Rattle.cv_parse_tables.specs.Table.{Row, table_heads, table_rule}
use Rattle.cv_parse_tables.specs.Trees.{all_of, over, single}
use Rattle.cv_script.specs.reader.Scripts.{items as items_of, script_of}
use Rattle.cv_script_laws.proofs.forms.Agreement.{sorts_pass}
use Rattle.cv_script_laws.proofs.forms.Deciding.{accepts, to_deep}
use Rattle.cv_script_laws.proofs.forms.Fitting.{deep_rule}
use Rattle.cv_print_scripts.specs.steps.Trees.{Behind, JustOne, Makes}
use Rattle.cv_script.specs.rows.Rows.{script_row, script_rows}
use Rattle.cv_script.specs.Views.{ArrayRename, Birthday, Codef, Crypto, Fresh, Guess, Let, Merge, Move, New, Pick, Prune, Rename, Rewrite, Simplify, Split, StepItems, Success, Unlet, Unnew, adds_in, items_of_step, name_in, number_in, part_in, tree_in, ◌>>=◌}
use Rattle.cv_script.specs.declared.views.Part.{Part}
use Rattle.cv_script.specs.declared.views.Part.TheVariants as part
use Rattle.cv_script_laws.specs.forms.Items.{HasItems}
use Rattle.cv_script_laws.proofs.forms.Made.{AtRow, OneMade, RowMade, of_row, row_at}
use Rattle.cv_script_laws.proofs.forms.Texts.{IsNode, nowhere, text_is_node}

-- any names and numbers, nodes for phrases of files, and any lines
abbrev AnyName : ℕ → Type 0
AnyName x = Unit {0}

abbrev AnyTree : ℕ → Tree → Type 0
AnyTree r t = Unit {0}

-- what a row's pieces make, and the row among so many
abbrev Made : ℕ → Makes
Made r ts = AtRow AnyName AnyName IsNode AnyTree script_rows r ts

abbrev InRow : ℕ → ℕ → Makes
InRow n r ts = RowMade AnyName AnyName IsNode AnyTree script_rows n r ts

row : (n r : ℕ) → nat_lt r n ≡ true → (ts : List Tree) → InRow n r ts → Made r ts
row n r e ts d = row_at AnyName AnyName IsNode AnyTree script_rows n r e ts d

abbrev OneOf : ℕ → ℕ → ℕ → Makes
OneOf n r k ts = OneMade AnyName AnyName IsNode AnyTree (InRow n) r k ts

abbrev IsName : Tree → Type 0
IsName t = (x : ℕ) × (t ≡ lone (head.Name x)) × Unit {0}

abbrev IsNumber : Tree → Type 0
IsNumber t = (v : ℕ) × (t ≡ lone (head.Number v)) × Unit {0}

abbrev IsPhrase : Tree → Type 0
IsPhrase t = tree_in t ≡ Some t

-- pieces one behind another

abbrev Nothing : Makes
Nothing ts = ts ≡ []

-- a piece without a tree
skip : {Q : Makes} {l : List Tree} → Behind (λ ts. ts ≡ []) Q l → Q l
skip {Q} b = subst Q (sym (b.parts ∙ ap (λ z. z ++ b.back) b.first)) b.second

-- one tree, and what stands behind it
record Taken (P : Tree → Type 0) (Q : Makes) (l : List Tree) : Type 0 where
  tree : Tree
  rest : List Tree
  is : l ≡ tree ∷ rest
  first : P tree
  second : Q rest

take : {P : Tree → Type 0} {Q : Makes} {l : List Tree} → Behind (JustOne P) Q l → Taken P Q l
take b = record { tree = b.first.0; rest = b.back; is = b.parts ∙ ap (λ z. z ++ b.back) b.first.1; first = b.first.2; second = b.second }

bound : {A B : Type 0} {o : Option A} {a : A} {r : Option B} (f : A → Option B) → o ≡ Some a → f a ≡ r → (o >>= f) ≡ r
bound f e g = ap (λ o. o >>= f) e ∙ g

has : {t : Tree} (i : StepItems) → items_of_step t ≡ Some i → HasItems t
has i e = record { items = i; are = e }

name_is : {t : Tree} (n : IsName t) → name_in t ≡ Some n.0
name_is n = ap name_in n.1

number_is : {t : Tree} (n : IsNumber t) → number_in t ≡ Some n.0
number_is n = ap number_in n.1

-- one tree alone
record One (P : Tree → Type 0) (l : List Tree) : Type 0 where
  tree : Tree
  is : l ≡ tree ∷ []
  first : P tree

last : {P : Tree → Type 0} {l : List Tree} → Behind (JustOne P) (λ ts. ts ≡ []) l → One P l
last b = let x = take b in record { tree = x.tree; is = x.is ∙ ap (λ z. x.tree ∷ z) x.second; first = x.first }

-- the trees of one piece that is one tree, and what stands behind it
taken : {P : Tree → Type 0} {O Q : Makes} {l : List Tree} → ((ts : List Tree) → O ts → One P ts) → Behind O Q l → Taken P Q l
taken {O = O} f b = let x = f b.front b.first in record { tree = x.tree; rest = b.back; is = b.parts ∙ ap (λ z. z ++ b.back) x.is; first = x.first; second = b.second }

alone : {P : Tree → Type 0} {l : List Tree} → JustOne P l → One P l
alone d = record { tree = d.0; is = d.1; first = d.2 }

-- a derivation, a type, a part of a `prune` and one of a `codef` are one tree

abbrev Any : Tree → Type 0
Any t = Unit {0}

braces : (n : ℕ) → nat_lt 18 n ≡ true → (l : List Tree) → InRow n 18 l → One Any l
braces n e l d = let x = take (skip (skip (row n 18 e l d))) in record { tree = x.tree; is = x.is ∙ ap (λ z. x.tree ∷ z) (skip x.second); first = tt }

is_bool : (l : List Tree) → InRow 1 0 l → (x : ℕ) × (over (head.Name 0) l ≡ lone (head.Name x)) × Unit {0}
is_bool l d = (0, ap (over (head.Name 0)) (skip (row 1 0 refl l d)), tt)

types : (n : ℕ) → nat_lt 1 n ≡ true → nat_lt 2 n ≡ true → (l : List Tree) → InRow n 1 l ⊎ InRow n 2 l → One IsName l
types n e f l (inl d) = let x = last (row n 1 e l d) in record { tree = x.tree; is = x.is; first = (let y = is_bool x.first.0 x.first.2 in (y.0, x.first.1 ∙ y.1, tt)) }
types n e f l (inr d) = last (row n 2 f l d)

over_node : (h : Head) (l : List Tree) → (a : Tree) × (b : Tree) × (over h l ≡ Node h a b)
over_node h [] = (Empty, Empty, refl)
over_node h (t ∷ ts) = (t, single ts, refl)

abbrev IsPart : Tree → Type 0
IsPart t = (p : Part) × (part_in t ≡ Some p)

parts : (l : List Tree) → OneOf 119 80 3 l → One IsPart l
parts l (inl d) = let x = last (row 119 80 refl l d) in record { tree = x.tree; is = x.is; first = (let y = over_node head.ThenPart x.first.0 in (part.Then, ap part_in (x.first.1 ∙ y.2))) }
parts l (inr (inl d)) = let x = last (row 119 81 refl l d) in record { tree = x.tree; is = x.is; first = (let y = over_node head.ElsePart x.first.0 in (part.Else, ap part_in (x.first.1 ∙ y.2))) }
parts l (inr (inr (inl d))) = let x = last (row 119 82 refl l d) in record { tree = x.tree; is = x.is; first = (part.Branch x.first.0, ap part_in x.first.1) }
parts l (inr (inr (inr d))) = absurd d

abbrev Adds : Tree → Type 0
Adds t = (b : Bool) × (adds_in t ≡ Some b)

additions : (l : List Tree) → OneOf 129 83 2 l → One Adds l
additions l (inl d) = let x = last (row 129 83 refl l d) in record { tree = x.tree; is = x.is; first = (let y = over_node head.AddPart x.first.0 in (true, ap adds_in (x.first.1 ∙ y.2))) }
additions l (inr (inl d)) = let x = last (row 129 84 refl l d) in record { tree = x.tree; is = x.is; first = (let y = over_node head.DropPart x.first.0 in (false, ap adds_in (x.first.1 ∙ y.2))) }
additions l (inr (inr d)) = absurd d

-- the trees of a row, as many as are asked for

module _ (h : Head) where
  abbrev Has : List Tree → Type 0
  Has l = HasItems (over h l)

  with_first : {P : Tree → Type 0} {Q : Makes} {l : List Tree} (x : Taken P Q l) → Has (x.tree ∷ x.rest) → Has l
  with_first x d = subst Has (sym x.is) d

  with_one : {P : Tree → Type 0} {l : List Tree} (x : One P l) → Has (x.tree ∷ []) → Has l
  with_one x d = subst Has (sym x.is) d

-- steps

splits : (l : List Tree) → Made 122 l → HasItems (over head.SplitStep l)
splits l d =
    let p = take (skip (skip d)) in
    let m = last (skip p.second) in
    with_first head.SplitStep p (subst (λ z. HasItems (Node head.SplitStep p.tree (single z))) (sym m.is) (
    has (Split p.first.0 m.tree) (bound (λ v. tree_in m.tree >>= λ t. Some (Split v t)) (number_is p.first) (bound (λ t. Some (Split p.first.0 t)) m.first refl))
    ))

lets : (l : List Tree) → Made 123 l → HasItems (over head.LetStep l)
lets l d =
    let p = take (skip (skip d)) in
    let x = take (skip p.second) in
    let ty = taken (types 123 refl refl) (skip (skip x.second)) in
    let m = last (skip (skip (skip ty.second))) in
    with_first head.LetStep p (subst (λ z. HasItems (Node head.LetStep p.tree (single z))) (sym (x.is ∙ ap (λ z. x.tree ∷ z) (ty.is ∙ ap (λ z. ty.tree ∷ z) m.is))) (
    has (Let p.first.0 x.first.0 ty.first.0 m.tree) (
    bound (λ v. name_in x.tree >>= λ y. name_in ty.tree >>= λ T. tree_in m.tree >>= λ t. Some (Let v y T t)) (number_is p.first) (
    bound (λ y. name_in ty.tree >>= λ T. tree_in m.tree >>= λ t. Some (Let p.first.0 y T t)) (name_is x.first) (
    bound (λ T. tree_in m.tree >>= λ t. Some (Let p.first.0 x.first.0 T t)) (name_is ty.first) (
    bound (λ t. Some (Let p.first.0 x.first.0 ty.first.0 t)) m.first refl
    ))))
    ))

news : (l : List Tree) → Made 125 l → HasItems (over head.NewStep l)
news l d =
    let p = take (skip (skip d)) in
    let x = take (skip p.second) in
    let ty = taken (types 125 refl refl) (skip (skip x.second)) in
    with_first head.NewStep p (subst (λ z. HasItems (Node head.NewStep p.tree (single z))) (sym (x.is ∙ ap (λ z. x.tree ∷ z) (ty.is ∙ ap (λ z. ty.tree ∷ z) ty.second))) (
    has (New p.first.0 x.first.0 ty.first.0) (
    bound (λ v. name_in x.tree >>= λ y. name_in ty.tree >>= λ T. Some (New v y T)) (number_is p.first) (
    bound (λ y. name_in ty.tree >>= λ T. Some (New p.first.0 y T)) (name_is x.first) (
    bound (λ T. Some (New p.first.0 x.first.0 T)) (name_is ty.first) refl
    )))
    ))

unnews : (l : List Tree) → Made 126 l → HasItems (over head.UnnewStep l)
unnews l d = let x = last (skip (skip d)) in with_one head.UnnewStep x (has (Unnew x.first.0) (bound (λ y. Some (Unnew y)) (name_is x.first) refl))

rewrites : (l : List Tree) → Made 118 l → HasItems (over head.RewriteStep l)
rewrites l d =
    let p = take (skip (skip d)) in
    let m = take (skip (skip (skip p.second))) in
    let by = taken (braces 118 refl) (skip (skip (skip m.second))) in
    with_first head.RewriteStep p (subst (λ z. HasItems (Node head.RewriteStep p.tree (single z))) (sym (m.is ∙ ap (λ z. m.tree ∷ z) by.is)) (
    has (Rewrite p.first.0 m.tree (single (by.tree ∷ by.rest))) (bound (λ v. tree_in m.tree >>= λ t. Some (Rewrite v t (single (by.tree ∷ by.rest)))) (number_is p.first) (bound (λ t. Some (Rewrite p.first.0 t (single (by.tree ∷ by.rest)))) m.first refl))
    ))

prunes : (l : List Tree) → Made 119 l → HasItems (over head.PruneStep l)
prunes l d =
    let p = take (skip (skip d)) in
    let k = taken parts (skip p.second) in
    let by = taken (braces 119 refl) (skip (skip (skip k.second))) in
    with_first head.PruneStep p (subst (λ z. HasItems (Node head.PruneStep p.tree (single z))) (sym (k.is ∙ ap (λ z. k.tree ∷ z) by.is)) (
    has (Prune p.first.0 k.first.0 (single (by.tree ∷ by.rest))) (bound (λ v. part_in k.tree >>= λ q. Some (Prune v q (single (by.tree ∷ by.rest)))) (number_is p.first) (bound (λ q. Some (Prune p.first.0 q (single (by.tree ∷ by.rest)))) k.first.1 refl))
    ))

renames : (l : List Tree) → Made 117 l → HasItems (over head.RenameStep l)
renames l d =
    let x = take (skip (skip d)) in
    let y = last (skip (skip (skip x.second))) in
    with_first head.RenameStep x (subst (λ z. HasItems (Node head.RenameStep x.tree (single z))) (sym y.is) (
    has (Rename x.first.0 y.first.0) (bound (λ v. name_in y.tree >>= λ w. Some (Rename v w)) (name_is x.first) (bound (λ w. Some (Rename x.first.0 w)) (name_is y.first) refl))
    ))

picks : (l : List Tree) → Made 120 l → HasItems (over head.PickStep l)
picks l d =
    let p = take (skip (skip d)) in
    with_first head.PickStep p (
    let b = single p.rest in
    has (Pick p.first.0 (first b) (first (second b)) (second (second b))) (bound (λ v. Some (Pick v (first b) (first (second b)) (second (second b)))) (number_is p.first) refl)
    )

merges : (l : List Tree) → Made 121 l → HasItems (over head.MergeStep l)
merges l d = let p = last (skip (skip d)) in with_one head.MergeStep p (has (Merge p.first.0) (bound (λ v. Some (Merge v)) (number_is p.first) refl))

unlets : (l : List Tree) → Made 124 l → HasItems (over head.UnletStep l)
unlets l d = let x = last (skip (skip d)) in with_one head.UnletStep x (has (Unlet x.first.0) (bound (λ y. Some (Unlet y)) (name_is x.first) refl))

moves : (l : List Tree) → Made 127 l → HasItems (over head.MoveStep l)
moves l d = let p = last (skip (skip d)) in with_one head.MoveStep p (has (Move p.first.0) (bound (λ v. Some (Move v)) (number_is p.first) refl))

array_renames : (l : List Tree) → Made 128 l → HasItems (over head.ArrayRenameStep l)
array_renames l d =
    let x = take (skip (skip d)) in
    with_first head.ArrayRenameStep x (has (ArrayRename x.first.0 (single x.rest)) (bound (λ y. Some (ArrayRename y (single x.rest))) (name_is x.first) refl))

codefs : (l : List Tree) → Made 129 l → HasItems (over head.CodefStep l)
codefs l d =
    let p = take (skip (skip d)) in
    let k = taken additions (skip p.second) in
    let y = take (skip k.second) in
    let x = take (skip (skip (skip y.second))) in
    let m = last x.second in
    let above = not (is_empty m.tree) in
    with_first head.CodefStep p (subst (λ z. HasItems (Node head.CodefStep p.tree (single z))) (sym (k.is ∙ ap (λ z. k.tree ∷ z) (y.is ∙ ap (λ z. y.tree ∷ z) (x.is ∙ ap (λ z. x.tree ∷ z) m.is)))) (
    has (Codef p.first.0 k.first.0 y.tree x.tree above) (
    bound (λ v. adds_in k.tree >>= λ add. tree_in y.tree >>= λ s. tree_in x.tree >>= λ t. Some (Codef v add s t above)) (number_is p.first) (
    bound (λ add. tree_in y.tree >>= λ s. tree_in x.tree >>= λ t. Some (Codef p.first.0 add s t above)) k.first.1 (
    bound (λ s. tree_in x.tree >>= λ t. Some (Codef p.first.0 k.first.0 s t above)) y.first (
    bound (λ t. Some (Codef p.first.0 k.first.0 y.tree t above)) x.first refl
    ))))
    ))

birthdays : (l : List Tree) → Made 130 l → HasItems (over head.BirthdayStep l)
birthdays l d =
    let x = take (skip (skip d)) in
    with_first head.BirthdayStep x (has (Birthday x.first.0 (single x.rest)) (bound (λ y. Some (Birthday y (single x.rest))) (name_is x.first) refl))

guesses : (l : List Tree) → Made 131 l → HasItems (over head.GuessStep l)
guesses l d =
    let x = take (skip (skip d)) in
    with_first head.GuessStep x (has (Guess x.first.0 (single x.rest)) (bound (λ y. Some (Guess y (single x.rest))) (name_is x.first) refl))

freshes : (l : List Tree) → Made 132 l → HasItems (over head.FreshStep l)
freshes l d = let p = last (skip (skip d)) in with_one head.FreshStep p (has (Fresh p.first.0) (bound (λ v. Some (Fresh v)) (number_is p.first) refl))

cryptos : (l : List Tree) → Made 133 l → HasItems (over head.CryptoStep l)
cryptos l d =
    let e = take (skip (skip d)) in
    let x = last (skip e.second) in
    with_first head.CryptoStep e (subst (λ z. HasItems (Node head.CryptoStep e.tree (single z))) (sym x.is) (
    has (Crypto e.first.0 x.first.0) (bound (λ v. name_in x.tree >>= λ w. Some (Crypto v w)) (name_is e.first) (bound (λ w. Some (Crypto e.first.0 w)) (name_is x.first) refl))
    ))

successes : (l : List Tree) → Made 134 l → HasItems (over head.SuccessStep l)
successes l d =
    let k = take (skip (skip d)) in
    with_first head.SuccessStep k (has (Success k.first.0 (single k.rest)) (bound (λ v. Some (Success v (single k.rest))) (number_is k.first) refl))

simplifies : (l : List Tree) → Made 135 l → HasItems (over head.SimplifyStep l)
simplifies l d = let y = over_node head.SimplifyStep l in has Simplify (ap items_of_step y.2)

-- a row of one step

abbrev IsStep : List Tree → Type 0
IsStep ts = One HasItems ts

a_step : (h : Head) (n r : ℕ) → nat_lt r n ≡ true → ((l : List Tree) → Made r l → HasItems (over h l)) → (ts : List Tree) → Behind (JustOne (λ t. (l : List Tree) × (t ≡ over h l) × InRow n r l)) (λ l. l ≡ []) ts → IsStep ts
a_step h n r e f ts d = let x = last d in record { tree = x.tree; is = x.is; first = subst HasItems (sym x.first.1) (f x.first.0 (row n r e x.first.0 x.first.2)) }

-- The rows of steps, each with what it makes.

record StepRow : Type 0 where
  row : ℕ
  makes : (ts : List Tree) → Made row ts → IsStep ts

abbrev all_rows : List StepRow
all_rows =
    record { row = 136; makes = a_step head.SplitStep 136 122 refl splits }
    ∷ record { row = 137; makes = a_step head.LetStep 137 123 refl lets }
    ∷ record { row = 138; makes = a_step head.NewStep 138 125 refl news }
    ∷ record { row = 139; makes = a_step head.UnnewStep 139 126 refl unnews }
    ∷ record { row = 140; makes = a_step head.RewriteStep 140 118 refl rewrites }
    ∷ record { row = 141; makes = a_step head.PruneStep 141 119 refl prunes }
    ∷ record { row = 142; makes = a_step head.SuccessStep 142 134 refl successes }
    ∷ record { row = 143; makes = a_step head.CryptoStep 143 133 refl cryptos }
    ∷ record { row = 144; makes = a_step head.UnletStep 144 124 refl unlets }
    ∷ record { row = 145; makes = a_step head.RenameStep 145 117 refl renames }
    ∷ record { row = 146; makes = a_step head.MergeStep 146 121 refl merges }
    ∷ record { row = 147; makes = a_step head.MoveStep 147 127 refl moves }
    ∷ record { row = 148; makes = a_step head.CodefStep 148 129 refl codefs }
    ∷ record { row = 149; makes = a_step head.ArrayRenameStep 149 128 refl array_renames }
    ∷ record { row = 150; makes = a_step head.SimplifyStep 150 135 refl simplifies }
    ∷ record { row = 151; makes = a_step head.PickStep 151 120 refl picks }
    ∷ record { row = 152; makes = a_step head.FreshStep 152 132 refl freshes }
    ∷ record { row = 153; makes = a_step head.BirthdayStep 153 130 refl birthdays }
    ∷ record { row = 154; makes = a_step head.GuessStep 154 131 refl guesses }
    ∷ []

-- one of the rows of a list, which follow each other in the table

abbrev count : {A : Type 0} → List A → ℕ
count [] = 0
count (x ∷ xs) = suc (count xs)

abbrev follow_from : ℕ → List StepRow → Bool
follow_from r [] = true
follow_from r (s ∷ l) = (s.row == r) && follow_from (r + 1) l

one_step : (l : List StepRow) (n r : ℕ) → follow_from r l ≡ true → r + count l ≤ n → (ts : List Tree) → OneOf n r (count l) ts → IsStep ts
one_step [] n r e h ts d = absurd d
one_step (s ∷ l) n r e h ts (inl d) =
    let p = and_parts (s.row == r) _ e in
    s.makes ts (subst (λ k. Made k ts) (sym (eqb-true s.row r p.0)) (row n r (lt-ltb r n (omega (arith, h))) ts d))
one_step (s ∷ l) n r e h ts (inr d) = one_step l n (r + 1) (and_parts (s.row == r) _ e).1 (omega (arith, h)) ts d

step : (ts : List Tree) → OneOf 156 136 19 ts → IsStep ts
step = one_step all_rows 156 136 refl (lit≤ tt)

-- scripts

-- a step with its semicolon
with_end : (Q : Makes) → ((ts : List Tree) → Q ts → IsStep ts) → (ts : List Tree) → Behind Q (λ l. Behind (λ u. u ≡ []) (λ u. u ≡ []) l) ts → IsStep ts
with_end Q f ts d = let x = f d.front d.first in record { tree = x.tree; is = d.parts ∙ (ap (λ z. d.front ++ z) (skip d.second) ∙ (ap (λ z. z ++ []) x.is)); first = x.first }

all_steps : (Q : Makes) → ((ts : List Tree) → Q ts → IsStep ts) → (l : List (List Tree)) → AllByRecursion Q l → AllByRecursion HasItems (all_of l)
all_steps Q f [] d = tt
all_steps Q f (ts ∷ l) d = let x = f ts d.0 in subst (λ z. AllByRecursion HasItems (z ++ all_of l)) (sym x.is) (x.first, all_steps Q f l d.1)

items_of_chain : (l : List Tree) → items_of (chain l) ≡ l
items_of_chain [] = refl
items_of_chain (t ∷ l) = ap (λ z. t ∷ z) (items_of_chain l)

-- a list of lists of steps
script_items : (script steps item : ℕ) → ((ts : List Tree) → InRow steps item ts → IsStep ts) → (ts : List Tree) → Behind (JustOne (λ t. (l : List Tree) × (t ≡ chain l) × InRow script steps l)) (λ l. l ≡ []) ts → ((l : List Tree) → InRow script steps l → Behind (λ u. (k : List (List Tree)) × (u ≡ all_of k) × AllByRecursion (InRow steps item) k) (λ u. u ≡ []) l) → AllByRecursion HasItems (items_of (single ts))
script_items script steps item f ts d g =
    let x = last d in
    let l = x.first.0 in
    let b = g l x.first.2 in
    let is : l ≡ all_of b.first.0 = b.parts ∙ (ap (λ z. b.front ++ z) b.second ∙ (append-nil b.front ∙ b.first.1)) in
    subst (λ z. AllByRecursion HasItems (items_of (single z))) (sym x.is) (
    subst (λ t. AllByRecursion HasItems (items_of t)) (sym x.first.1) (
    subst (AllByRecursion HasItems) (sym (items_of_chain l ∙ is)) (all_steps (InRow steps item) f b.first.0 b.first.2)
    ))

-- what a row of the table of scripts spells it makes
made_so : (row : ℕ) → nat_lt row 159 ≡ true → (signs : List Sign) (t : Tree) (us : _) → SpellsWith (table_heads script_rows) deep_rule (table_rule script_rows (Row row)) levels signs t us [] → (ts : List Tree) × (single ts ≡ t) × Made row ts
made_so r e signs t us d = (d.0, d.2, row 159 r e d.0 (of_row AnyName AnyName IsNode AnyTree (λ s. Unit {0}) (table_heads script_rows) true (IsSort (table_heads script_rows) deep_rule levels) (λ x w g. tt) (λ v g. tt) (λ p ts a us rest e w. (text_is_node p ts a us rest e, good rest)) (λ r ts a us rest e w. (tt, good rest)) (nowhere levels) script_rows 159 r signs d.0 us [] d.1 (good signs)).0)
  where
    good : (ts : List Sign) → AllByRecursion (λ s. Unit {0}) ts
    good ts = AllByRecursion_always (λ s. Unit {0}) (λ s. tt) ts

pub have_items : (limit live from : ℕ) (signs : List Sign) (steps : List Tree) → script_of limit live from signs ≡ Ok steps → AllByRecursion HasItems steps
unfolding sorts_pass
have_items limit live from signs steps e =
    let r = accepts limit live from signs steps e in
    let m = made_so script_row refl signs r.script r.uses (to_deep signs r.script r.uses [] r.spelled) in
    subst (AllByRecursion HasItems) (sym (r.items ∙ ap items_of (sym m.1))) (script_items 158 157 156 (λ ts d. with_end (OneOf 156 136 19) step ts (row 157 156 refl ts d)) m.0 m.2 (λ l d. row 158 157 refl l d))
