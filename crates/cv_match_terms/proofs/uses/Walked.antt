-- What a game has of a variable, node by node.
use Rattle.std.proofs.Common.{◌≡◌, ℕ, None, ◌+◌, ◌<◌, ◌≤◌, ◌^◌, Bool, true, false, List, [], ◌∷◌, ◌++◌, length, take, refl, ap, ap₂, sym, ◌∙◌, arith}
use Rattle.std.specs.Prelude.{if◌then◌else◌, ◌==◌}
use Rattle.std.proofs.lemmas.List.{length-take, take-append-le}
use Rattle.cv_syntax_trees.specs.declared.head.Head.{Head}
use Rattle.cv_syntax_trees.specs.declared.head.Head.TheVariants.{Leaf, New, Read, Repl}
use Rattle.cv_syntax_trees.specs.Head.{weight}
use Rattle.cv_syntax_trees.specs.Tree.{Tree, Empty, Node, size}
use Rattle.cv_scope_rules.specs.Context.{replications_below}
use Rattle.cv_scope_rules.specs.Made.{made_by}
use Rattle.cv_scope_rules.specs.Sites.{Variable}
use Rattle.cv_scene.specs.Scenes.{head_reads}
use Rattle.cv_scene.specs.Refusals.{definitions_in, only_new, uses}
use Rattle.cv_match_terms.specs.uses.Tallies.{Draw, One, Other, Tally, Zero, drawn, join, plus, single, summary, tally, tally_here, tally_of, used_here}
use Rattle.cv_match_terms.proofs.uses.Joining.{join_assoc, join_zero, plus_assoc, plus_nothing}

-- uses

pub uses_node : (x : ℕ) (t : Tree) (h : Head) (a b : Tree) → t ≡ Node h a b → uses x t ≡ (if head_reads x h then 1 else 0) + (uses x a + uses x b)
unfolding uses
uses_node x t h a b e = ap (uses x) e

pub uses_end : (x : ℕ) (t : Tree) → t ≡ Empty → uses x t ≡ 0
unfolding uses
uses_end x t e = ap (uses x) e

one_most : (b : Bool) → (if b then 1 else 0) ≤ 1
one_most true = omega arith
one_most false = omega arith

here_few : (x : ℕ) (h : Head) → (if head_reads x h then 1 else 0) ≤ weight h
here_few x (Leaf y) = one_most (y == x)
here_few x (Read y) = one_most (y == x)
here_few x h = omega arith

pub uses_few : (x : ℕ) (t : Tree) → uses x t ≤ size t
unfolding uses size
uses_few x Empty = omega arith
uses_few x (Node h a b) = omega (arith, here_few x h, uses_few x a, uses_few x b)

-- tallies

summary_append : (ds es : List (Head × List (ℕ × ℕ))) → summary (ds ++ es) ≡ join (summary ds) (summary es)
summary_append [] es = refl
summary_append (d ∷ ds) es = ap (join (single d)) (summary_append ds es) ∙ sym (join_assoc (single d) (summary ds) (summary es))

summary_if : (b : Bool) (d : Head × List (ℕ × ℕ)) → summary (if b then d ∷ [] else []) ≡ (if b then single d else Zero)
summary_if true d = join_zero (single d)
summary_if false d = refl

tally_parts : (rs : List (ℕ × ℕ)) (x : ℕ) (h : Head) (a b : Tree) → tally_of rs x (Node h a b) ≡ plus (tally_here rs x h a) (plus (tally_of rs x a) (tally_of (replications_below h rs) x b))
unfolding uses definitions_in
tally_parts rs x h a b =
    let H : List (Head × List (ℕ × ℕ)) = if made_by h a (Variable x) then (h, rs) ∷ [] else [] in
    let D : List (Head × List (ℕ × ℕ)) = definitions_in x rs a in
    let E : List (Head × List (ℕ × ℕ)) = definitions_in x (replications_below h rs) b in
    ap₂ tally (omega arith) (summary_append H (D ++ E) ∙ ap₂ join (summary_if (made_by h a (Variable x)) (h, rs)) (summary_append D E))

pub tally_end : (rs : List (ℕ × ℕ)) (x : ℕ) (t : Tree) (s : Tally) → t ≡ Empty → s ≡ plus s (tally_of rs x t)
unfolding uses definitions_in
tally_end rs x t s e = sym (ap (λ u. plus s (tally_of rs x u)) e ∙ plus_nothing s)

-- a node, its first part, and the rest
module _ (rs : List (ℕ × ℕ)) (x : ℕ) (t : Tree) (h : Head) (a b : Tree) (e : t ≡ Node h a b) (s : Tally) where
  whole : plus s (tally_of rs x t) ≡ plus s (plus (tally_here rs x h a) (plus (tally_of rs x a) (tally_of (replications_below h rs) x b)))
  whole = ap (λ u. plus s (tally_of rs x u)) e ∙ ap (plus s) (tally_parts rs x h a b)

  pub tally_node : (q r : Tally) (qs ps : List (ℕ × ℕ)) → q ≡ plus s (tally_here rs x h a) → qs ≡ rs → r ≡ plus q (tally_of qs x a) → ps ≡ replications_below h rs → plus r (tally_of ps x b) ≡ plus s (tally_of rs x t)
  tally_node q r qs ps f g i k =
      ap₂ (λ u l. plus u (tally_of l x b)) (i ∙ ap₂ (λ u l. plus u (tally_of l x a)) f g) k
      ∙ (plus_assoc (plus s (tally_here rs x h a)) (tally_of rs x a) (tally_of (replications_below h rs) x b)
      ∙ (plus_assoc s (tally_here rs x h a) (plus (tally_of rs x a) (tally_of (replications_below h rs) x b)) ∙ sym whole))

  module _ (room : (plus s (tally_of rs x t)).uses < 2 ^ 32) where
    pub room_here : (plus s (used_here x h)).uses < 2 ^ 32
    room_here =
        let w = ap (λ (u : Tally). u.uses) whole in
        omega (arith, w, room)

    pub room_first : (q : Tally) (qs : List (ℕ × ℕ)) → q ≡ plus s (tally_here rs x h a) → qs ≡ rs → (plus q (tally_of qs x a)).uses < 2 ^ 32
    room_first q qs f g =
        let w = ap (λ (u : Tally). u.uses) whole in
        let v : q.uses ≡ s.uses + ((if head_reads x h then 1 else 0) + 0) = ap (λ (u : Tally). u.uses) f in
        omega (arith, w, v, room)

-- the only definition

single_twice : (d : Head × List (ℕ × ℕ)) (e : Draw) → (e ≡ Zero → ⊥) → join (single d) e ≡ Other
single_twice (New x T, rs) Zero n = absurd (n refl)
single_twice (New x T, rs) (One U qs) n = refl
single_twice (New x T, rs) Other n = refl
single_twice (h, rs) e n = refl

some_summary : (d : Head × List (ℕ × ℕ)) (e : Draw) → join (single d) e ≡ Zero → ⊥
some_summary (New x T, rs) Zero i = absurd (cc)
some_summary (New x T, rs) (One U qs) i = absurd (cc)
some_summary (New x T, rs) Other i = absurd (cc)
some_summary (h, rs) e i = absurd (cc)

pub only_drawn : (ds : List (Head × List (ℕ × ℕ))) → drawn (summary ds) ≡ only_new ds
only_drawn [] = refl
only_drawn ((New x T, rs) ∷ []) = refl
only_drawn ((h, rs) ∷ []) = refl
only_drawn (d ∷ e ∷ ds) = ap drawn (single_twice d (summary (e ∷ ds)) (some_summary e (summary ds))) ∙ sym (none d e ds)
  where
    none : (d e : Head × List (ℕ × ℕ)) (ds : List (Head × List (ℕ × ℕ))) → only_new (d ∷ e ∷ ds) ≡ None
    none (New x T, rs) e ds = refl
    none (h, rs) e ds = refl

-- the replications of a walk's start stay in front
pub front_kept : (h : Head) (k : ℕ) (xs ys zs : List (ℕ × ℕ)) → ys ≡ replications_below h xs → k ≡ length zs → take k xs ≡ zs → take k ys ≡ zs
front_kept h k xs ys zs e f g = ap (take k) e ∙ step h
  where
    enough : k ≤ length xs
    enough = omega (arith, length-take k xs, ap length g)

    step : (h : Head) → take k (replications_below h xs) ≡ zs
    step (Repl i n) = take-append-le k xs ((i, n) ∷ []) enough ∙ g
    step h = g
