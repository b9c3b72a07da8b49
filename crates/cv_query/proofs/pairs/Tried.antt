-- The test of a pair, by the lists that are made for it.
use Rattle.std.proofs.Common.{◌≡◌, ℕ, ◌+◌, ◌<◌, ◌^◌, Bool, true, false, ◌&&◌, List, [], ◌∷◌, ◌++◌, nat_lt, ltb-true, refl, sym, ap, ap₂, ◌∙◌, arith, map, Option, Some}
use Rattle.std.specs.Prelude.{if◌then◌else◌}
use Rattle.cv_syntax_trees.specs.lists.Options.{first_of}
use Rattle.cv_pool.specs.KindTree.{KindTree}
use Rattle.cv_syntax_trees.specs.declared.head.Head.TheVariants as head
use Rattle.cv_syntax_trees.specs.Tree.{Tree, Empty, Node, chain, size}
use Rattle.cv_syntax.specs.PoolTrees.{tree_at}
use Rattle.cv_scope_rules.specs.Above.{stands_at}
use Rattle.cv_scope_rules.specs.Context.{Context, items}
use Rattle.cv_scene.specs.Derivations.{first_bad, first_bad_line, is_right_split, nothing_visible, unless, with_line}
use Rattle.cv_scene.specs.Late.{index_term}
use Rattle.cv_scene.specs.lines.Inferences.{Visible}
use Rattle.cv_scene.specs.lines.Lines.{By, Cases, End, Holds, IsDefined, Lines, Statement, count, lines_of}
use Rattle.cv_scene.specs.Pairs.{all_of_second, pair_at, second_indices}
use Rattle.cv_scene.specs.Reasons.{is_reason, is_right}
use Rattle.cv_scene.specs.Scenes.{Scene}
use Rattle.cv_scene.specs.Sights.{Pair, Sight, cells_by, facts_by, is_typed}
use Rattle.cv_scene.specs.Terms.{replications_at}
use Rattle.cv_derive_facts.proofs.Standings.{stands_where}
use Rattle.cv_query_certificates.specs.Marks.{plain}
use Rattle.cv_query_certificates.specs.PairParts.{ends_pair, proves_pair}
use Rattle.cv_query_parts.specs.Countable.{IsCountable}
use Rattle.cv_query_parts.specs.declared.pairs.walk.Pairing.{Pairing}
use Rattle.cv_query_parts.specs.pairs.Lists.{lists_of}
use Rattle.cv_query_parts.specs.pairs.Walks.{needed_of}
use Rattle.cv_query_parts.proofs.pairs.Meeting.{past_replications}
use Rattle.cv_query.specs.declared.pairs.ends.Ends.{Ends}
use Rattle.cv_query.specs.pairs.Proved.{has_end, has_right_lines, is_proved, near}

-- A place that no game has: nothing stands there, whichever it is.

module _ (s : Scene) (l : size s.game < 2 ^ 32) (p : ℕ) where
  near_replications : replications_at s (near p) ≡ replications_at s p
  near_replications = go (nat_lt 4294967295 p) refl
    where
      go : (b : Bool) → nat_lt 4294967295 p ≡ b → replications_at s (if b then 4294967295 else p) ≡ replications_at s p
      go true e = let m : 4294967295 < p = ltb-true 4294967295 p e in past_replications s 4294967295 (omega (arith, l)) ∙ sym (past_replications s p (omega (arith, l, m)))
      go false e = refl

  near_stands : stands_at s.game (near p) ≡ stands_at s.game p
  near_stands = go (nat_lt 4294967295 p) refl
    where
      go : (b : Bool) → nat_lt 4294967295 p ≡ b → stands_at s.game (if b then 4294967295 else p) ≡ stands_at s.game p
      go true e = let m : 4294967295 < p = ltb-true 4294967295 p e in (stands_where s.game 4294967295).1 (omega (arith, l)) ∙ sym ((stands_where s.game p).1 (omega (arith, l, m)))
      go false e = refl

-- a derivation at two places doesn't ask for the number of the first

module _ (s : Scene) (rs : List (ℕ × ℕ)) (fs cs : List Tree) (o : Pair) where
  abbrev seen : ℕ → Sight
  seen n = record { scene = s; place = n; replications = rs; facts = fs; cells = cs; pair = Some o }

  module _ (m n : ℕ) where
    reason_anywhere : (g : Tree) (v : Visible) (t r : Tree) → is_reason (seen m) g v t r ≡ is_reason (seen n) g v t r
    reason_anywhere g v t Empty = refl
    reason_anywhere g v t (Node head.ByLate l ls) = refl
    reason_anywhere g v t (Node h a b) = refl

    right_anywhere : (g : Tree) (v : Visible) (t : Statement) (r : Tree) → is_right (seen m) g v t r ≡ is_right (seen n) g v t r
    right_anywhere g v (Holds t) r = ap (λ b. is_typed (seen n) (Holds t) && b) (reason_anywhere g v t r)
    right_anywhere g v (IsDefined c) r = refl

    bad_anywhere : (g : Tree) (v : Visible) (i : ℕ) (ls : Lines) → first_bad (seen m) g v i ls ≡ first_bad (seen n) g v i ls
    unfolding first_bad
    bad_anywhere g v i End = refl
    bad_anywhere g v i (By t r rest) = ap₂ (λ b o. first_of (unless b i) o) (right_anywhere g v t r) (bad_anywhere g (with_line v i t) (i + 1) rest)
    bad_anywhere g v i (Cases c d e t rest) =
        ap₂ (λ x y. first_of x (first_of y (first_of (unless (is_right_split (seen n) c d e t) (i + count d + count e)) (first_bad (seen m) g (with_line v (i + count d + count e) (Holds t)) (i + count d + count e + 1) rest)))) (bad_anywhere c v i d) (bad_anywhere (Node head.Not c Empty) v (i + count d) e)
        ∙ ap (λ x. first_of (first_bad (seen n) c v i d) (first_of (first_bad (seen n) (Node head.Not c Empty) v (i + count d) e) (first_of (unless (is_right_split (seen n) c d e t) (i + count d + count e)) x))) (bad_anywhere g (with_line v (i + count d + count e) (Holds t)) (i + count d + count e + 1) rest)

module _ (s : Scene) (l : size s.game < 2 ^ 32) (p q k : ℕ) (given : List Tree) (ds : List ℕ) where
  abbrev added : List (ℕ × ℕ) → Option Context → Pair
  added rs o = record { facts = all_of_second k rs (facts_by o); cells = all_of_second k rs (cells_by o); given = given; distinct = ds }

  abbrev at_both : ℕ → (rs qs : List (ℕ × ℕ)) → (Γ Δ : Option Context) → Sight
  at_both n rs qs Γ Δ = seen s (rs ++ second_indices k qs) (facts_by Γ) (cells_by Γ) (added qs Δ) n

  pub near_lines : (by : Tree) → first_bad_line (pair_at s (near p) (near q) k given ds) by ≡ first_bad_line (pair_at s p q k given ds) by
  near_lines by =
      ap₂ (λ rs Γ. first_bad_line (at_both (near p) rs (replications_at s (near q)) Γ (stands_at s.game (near q))) by) (near_replications s l p) (near_stands s l p)
      ∙ (ap₂ (λ qs Δ. first_bad_line (at_both (near p) (replications_at s p) qs (stands_at s.game p) Δ) by) (near_replications s l q) (near_stands s l q)
      ∙ bad_anywhere s (replications_at s p ++ second_indices k (replications_at s q)) (facts_by (stands_at s.game p)) (cells_by (stands_at s.game p)) (added (replications_at s q) (stands_at s.game q)) (near p) p Empty nothing_visible 1 (lines_of by))

pub near_at : (s : Scene) → size s.game < 2 ^ 32 → (p : ℕ) → replications_at s (near p) ≡ replications_at s p
near_at s l p = near_replications s l p

-- lines over plain names

count_plain : (k : ℕ) (t : Tree) → count (lines_of (plain k t)) ≡ count (lines_of t)
unfolding plain lines_of count
count_plain k Empty = refl
count_plain k (Node c Empty rest) = ap (λ n. 1 + n) (count_plain k rest)
count_plain k (Node c (Node head.Line t r) rest) = ap (λ n. 1 + n) (count_plain k rest)
count_plain k (Node c (Node head.Defined t r) rest) = ap (λ n. 1 + n) (count_plain k rest)
count_plain k (Node c (Node head.Cases t Empty) rest) = ap (λ n. 1 + n) (count_plain k rest)
count_plain k (Node c (Node head.Cases t (Node d first Empty)) rest) = ap (λ n. 1 + n) (count_plain k rest)
count_plain k (Node c (Node head.Cases t (Node d first (Node e second u))) rest) =
    ap₂ (λ m n. m + n) (ap₂ (λ m n. m + n + 1) (count_plain k first) (count_plain k second)) (count_plain k rest)
count_plain k (Node c (Node h a b) rest) = ap (λ n. 1 + n) (count_plain k rest)

pub plain_countable : (k : ℕ) (t : Tree) → IsCountable t → IsCountable (plain k t)
plain_countable k t l = omega (arith, l, count_plain k t)

-- what is tested of the lists

items_chain : (ts : List Tree) → items (chain ts) ≡ ts
items_chain [] = refl
items_chain (t ∷ ts) = ap (λ us. t ∷ us) (items_chain ts)

pub proved_by : (s : Scene) (k : ℕ) (ds : List ℕ) (rows : List (ℕ × ℕ)) (e : Ends) (trees : List KindTree) (p : Pairing) (by : Tree) → plain k (tree_at trees p.by) ≡ by
    → ends_pair s k p.first p.second by ≡ has_end e.same e.never by (chain (map index_term e.rows.items)) (chain (map index_term (second_indices k e.rows.items)))
    → is_proved s p.first p.second k ds e (lists_of s k rows e.rows.items trees p) ≡ proves_pair s k ds (needed_of s k trees p) by
proved_by s k ds rows e trees p by f g =
    ap (λ t. has_right_lines s p.first p.second k (items (chain (needed_of s k trees p).given)) ds t && has_end e.same e.never t (chain (map index_term e.rows.items)) (chain (map index_term (second_indices k e.rows.items)))) f
    ∙ ap₂ (λ ts b. has_right_lines s p.first p.second k ts ds by && b) (items_chain (needed_of s k trees p).given) (sym g)
