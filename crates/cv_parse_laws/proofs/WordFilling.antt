-- Filling keeps what is written.
use Rattle.std.proofs.Common.{◌≡◌, ℕ, zero, suc, Bool, true, false, ◌==◌, ◌&&◌, if◌then◌else◌, List, [], ◌∷◌, ◌++◌, map, take, Option, Some, None, refl, ap, ◌∙◌}
use Rattle.std.proofs.lemmas.Bool.{and_from, and_parts}
use Rattle.std.specs.List.{AllByRecursion, list_any}
use Rattle.cv_syntax_trees.specs.declared.head.Head.{Head}
use Rattle.cv_syntax_trees.specs.declared.head.Head.TheVariants.{Repl, In, Out, Apply, Find, Branch, Binder, Leaf, Read, Cons}
use Rattle.cv_syntax_trees.specs.Tree.{Tree, Empty, Node, chain, lone, names}
use Rattle.cv_parse_grammar.specs.Filled.{filled_at, now_below, on_channel, read_at, read_plainly}
use Rattle.cv_print_bytes.specs.terminals.Written.{has_items, has_parameters, head_is_written, is_name, is_written}
use Rattle.cv_parse_laws.specs.Words.{HasWords}
use Rattle.cv_parse_laws.proofs.WordRows.{alone_words, empty_words, named, node_words}

abbrev Named : List ℕ → Type 0
Named l = AllByRecursion (λ x. is_name x ≡ true) l

taken : (k : ℕ) (l : List ℕ) → Named l → Named (take k l)
taken zero l w = tt
taken (suc k) [] w = tt
taken (suc k) (x ∷ l) w = (w.0, taken k l w.1)

one_more : (l : List ℕ) (i : ℕ) → Named l → is_name i ≡ true → Named (l ++ i ∷ [])
one_more [] i w e = (e, tt)
one_more (x ∷ l) i w e = (w.0, one_more l i w.1 e)

-- a bare name

leaves : (l : List ℕ) → Named l → HasWords (chain (map (λ i. lone (Leaf i)) l))
leaves [] w = empty_words
leaves (i ∷ l) w = node_words refl (alone_words w.0) (leaves l w.1)

at_indices : (x : ℕ) → is_name x ≡ true → (l : List ℕ) → Named l → HasWords (read_at x l)
at_indices x e [] w = alone_words e
at_indices x e (i ∷ l) w = node_words (and_from (is_name x) true e refl) (leaves (i ∷ l) w) empty_words

plainly : (x : ℕ) → is_name x ≡ true → (o : Option ℕ) (now : List ℕ) → Named now → HasWords (read_plainly o now x)
plainly x e None now w = alone_words e
plainly x e (Some k) now w = at_indices x e (take k now) (taken k now w)

barely : (x : ℕ) → is_name x ≡ true → (b : Bool) (o : Option ℕ) (now : List ℕ) → Named now → HasWords (if b then lone (Leaf x) else read_plainly o now x)
barely x e true o now w = alone_words e
barely x e false o now w = plainly x e o now w

-- what a head asks of its first child stays

read_has_items : (x : ℕ) (l : List ℕ) → has_items (read_at x l) ≡ true
read_has_items x [] = refl
read_has_items x (i ∷ l) = refl

plain_has_items : (x : ℕ) (o : Option ℕ) (now : List ℕ) → has_items (read_plainly o now x) ≡ true
plain_has_items x None now = refl
plain_has_items x (Some k) now = read_has_items x (take k now)

bare_has_items : (x : ℕ) (b : Bool) (o : Option ℕ) (now : List ℕ) → has_items (if b then lone (Leaf x) else read_plainly o now x) ≡ true
bare_has_items x true o now = refl
bare_has_items x false o now = plain_has_items x o now

items_kept : (sites : ℕ → Option ℕ) (now : List ℕ) (a : Tree) → has_items (filled_at sites now a) ≡ has_items a
unfolding filled_at
items_kept sites now Empty = refl
items_kept sites now (Node (Leaf x) a b) = bare_has_items x (list_any (λ i. i == x) now) (sites x) now
items_kept sites now (Node h a b) = refl

read_has_parameters : (x : ℕ) (l : List ℕ) → has_parameters (read_at x l) ≡ true
unfolding has_parameters
read_has_parameters x [] = refl
read_has_parameters x (i ∷ l) = refl

plain_has_parameters : (x : ℕ) (o : Option ℕ) (now : List ℕ) → has_parameters (read_plainly o now x) ≡ true
unfolding has_parameters
plain_has_parameters x None now = refl
plain_has_parameters x (Some k) now = read_has_parameters x (take k now)

bare_has_parameters : (x : ℕ) (b : Bool) (o : Option ℕ) (now : List ℕ) → has_parameters (if b then lone (Leaf x) else read_plainly o now x) ≡ true
unfolding has_parameters
bare_has_parameters x true o now = refl
bare_has_parameters x false o now = plain_has_parameters x o now

parameters_kept : (sites : ℕ → Option ℕ) (now : List ℕ) (a : Tree) → has_parameters (filled_at sites now a) ≡ has_parameters a
unfolding filled_at has_parameters
parameters_kept sites now Empty = refl
parameters_kept sites now (Node (Leaf x) a b) = bare_has_parameters x (list_any (λ i. i == x) now) (sites x) now
parameters_kept sites now (Node (Binder u n) a b) = ap (λ p. is_name n && p) (parameters_kept sites now b)
parameters_kept sites now (Node h a b) = refl

head_kept : (sites : ℕ → Option ℕ) (now : List ℕ) (h : Head) (a : Tree) → head_is_written h a ≡ true → head_is_written h (on_channel h now (filled_at sites now a)) ≡ true
head_kept sites now (Read x) a e = ap (λ p. is_name x && p) (items_kept sites now a) ∙ e
head_kept sites now (Apply x) a e = ap (λ p. is_name x && p) (items_kept sites now a) ∙ e
head_kept sites now (Find l) a e = items_kept sites now a ∙ e
head_kept sites now Branch a e = parameters_kept sites now a ∙ e
head_kept sites now h a e = e

-- a channel

current : (now : List ℕ) (b : Tree) → Named now → HasWords (Node Cons Empty b) → HasWords (Node Cons (names now) b)
unfolding is_written
current now b w e = node_words refl (named now w) (record { written = e.written })

channel_kept : (h : Head) (now : List ℕ) (a : Tree) → Named now → HasWords a → HasWords (on_channel h now a)
channel_kept (In c) now (Node Cons Empty b) w e = current now b w e
channel_kept (Out c) now (Node Cons Empty b) w e = current now b w e
channel_kept h now a w e = e

below : (h : Head) (now : List ℕ) (a : Tree) → head_is_written h a ≡ true → Named now → Named (now_below h now)
below (Repl i n) now a e w = one_more now i w (and_parts (is_name i) (is_name n) e).0
below h now a e w = w

pub filled_words : (sites : ℕ → Option ℕ) (now : List ℕ) (t : Tree) → Named now → HasWords t → HasWords (filled_at sites now t)
unfolding filled_at is_written
filled_words sites now Empty w e = e
filled_words sites now (Node (Leaf x) a b) w e = barely x (and_parts (is_name x) (is_written a && is_written b) e.written).0 (list_any (λ i. i == x) now) (sites x) now w
filled_words sites now (Node h a b) w e =
    let p = and_parts (head_is_written h a) (is_written a && is_written b) e.written in
    let q = and_parts (is_written a) (is_written b) p.1 in
    node_words (head_kept sites now h a p.0) (channel_kept h now (filled_at sites now a) w (filled_words sites now a w (record { written = q.0 }))) (filled_words sites (now_below h now) b (below h now a p.0 w) (record { written = q.1 }))
