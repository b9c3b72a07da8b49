-- Bookmarks serve the lines of a list: behind a line by a reason, in the blocks of a line by cases, and behind it.
use Rattle.std.proofs.Common.{◌≡◌, ℕ, ◌+◌, ◌<◌, ◌≤◌, ◌^◌, List, length, Some, None, Option, arith, refl, sym, ap, subst, ◌∙◌, eq-eqb, ne_eqb, lt-ltb, le-ltb}
use Rattle.std.specs.Prelude.{◌==◌, nat_lt, if◌then◌else◌}
use Rattle.cv_pool.specs.declared.node.NodeId.{NodeId}
use Rattle.cv_pool.specs.KindTree.{KindTree}
use Rattle.cv_pool.specs.Nodes.{ChildBelow}
use Rattle.cv_syntax.specs.declared.open.Opened.{Opened}
use Rattle.cv_syntax_trees.specs.Tree.{Tree, Node}
use Rattle.cv_syntax.specs.PoolTrees.{tree_at}
use Rattle.cv_scene.specs.lines.Lines.{Lines, By, Cases, Statement, Holds, count, lines_of}
use Rattle.cv_derive_lines.specs.declared.lines.Claim.{Claim}
use Rattle.cv_derive_lines.specs.declared.lines.Line.{Line}
use Rattle.cv_derive_lines.specs.Views.{IsClaimBelow, front, in_front, statement_of}
use Rattle.cv_derive_lines.proofs.Fronts.{line_at}
use Rattle.cv_derive_lines.specs.declared.citing.bookmarks.Bookmarks.{Bookmarks}
use Rattle.cv_derive_lines.specs.citing.Bookmarks.{AreLines, IsLine, Serves}
use Rattle.cv_derive_lines.specs.citing.Citing.{cited_from}

-- what is found in a list, by the number of the line that cites

module _ (t : Statement) (r : Tree) (rest : Lines) where
  pub count_by : count (By t r rest) ≡ 1 + count rest
  unfolding count
  count_by = refl

  pub by_itself : (n l : ℕ) → cited_from (By t r rest) n n l ≡ None
  unfolding cited_from
  by_itself n l = ap (λ b. if b then None else (if n == l then Some t else cited_from rest (n + 1) n l)) (eq-eqb n n refl)

  pub by_behind : (s n l : ℕ) → s < n → cited_from (By t r rest) s n l ≡ (if s == l then Some t else cited_from rest (s + 1) n l)
  unfolding cited_from
  by_behind s n l lt =
      let ne : s ≡ n → ⊥ = λ e. let k : s < n = lt in omega arith in
      ap (λ b. if b then None else (if s == l then Some t else cited_from rest (s + 1) n l)) (ne_eqb s n ne)

module _ (c : Tree) (d e : Lines) (t : Tree) (rest : Lines) where
  pub count_cases : count (Cases c d e t rest) ≡ count d + count e + 1 + count rest
  unfolding count
  count_cases = refl

  module _ (s n l : ℕ) where
    abbrev middle : ℕ
    middle = s + count d

    abbrev end : ℕ
    end = middle + count e

    abbrev behind : Option Statement
    behind = if end == l then Some (Holds t) else cited_from rest (end + 1) n l

    abbrev further : Option Statement
    further = if end == n then None else behind

    abbrev second : Option Statement
    second = if nat_lt n end then cited_from e middle n l else further

    open_cases : cited_from (Cases c d e t rest) s n l ≡ (if nat_lt n middle then cited_from d s n l else second)
    unfolding cited_from
    open_cases = refl

    pub in_first : n < middle → cited_from (Cases c d e t rest) s n l ≡ cited_from d s n l
    in_first lt = open_cases ∙ ap (λ b. if b then cited_from d s n l else second) (lt-ltb n middle lt)

    past_first : middle ≤ n → cited_from (Cases c d e t rest) s n l ≡ second
    past_first le = open_cases ∙ ap (λ b. if b then cited_from d s n l else second) (le-ltb n middle le)

    pub in_second : middle ≤ n → n < end → cited_from (Cases c d e t rest) s n l ≡ cited_from e middle n l
    in_second le lt = past_first le ∙ ap (λ b. if b then cited_from e middle n l else further) (lt-ltb n end lt)

    pub in_rest : end < n → cited_from (Cases c d e t rest) s n l ≡ behind
    in_rest lt =
        let le : middle ≤ n = omega arith in
        let m : end ≤ n = omega arith in
        let ne : end ≡ n → ⊥ = λ f. let k : end < n = lt in omega arith in
        past_first le
        ∙ (ap (λ b. if b then cited_from e middle n l else further) (le-ltb n end m)
        ∙ ap (λ b. if b then None else behind) (ne_eqb end n ne))

-- from a line on whose own number is known

differs : (s l : ℕ) → s < l → (o p : Option Statement) → (if s == l then o else p) ≡ p
differs s l lt o p =
    let ne : s ≡ l → ⊥ = λ f. let k : s < l = lt in omega arith in
    ap (λ b. if b then o else p) (ne_eqb s l ne)

-- what leaves bookmarks of which each is a line, where one more is

abbrev pub Keeps : List KindTree → Lines → (old new : Bookmarks) → ℕ → Claim → Option NodeId → Type 0
Keeps trees all old new number claim behind = (n : ℕ) → AreLines trees all n old → IsLine trees all n number claim behind → AreLines trees all n new

module _ (trees : List KindTree) (all : Lines) where
  pub serves_all : (marks : Bookmarks) → ((n : ℕ) → AreLines trees all n marks) → 1 + count all < 2 ^ 32 → Serves trees all marks 1 all
  serves_all marks a f = record { fits = f; kept = λ n le lt. a n; found = λ n l le lt m. refl }

  module _ (old new : Bookmarks) (s : ℕ) (T : Claim) (at : Option NodeId) (low : IsClaimBelow (length trees) T) (live : ChildBelow (length trees) at) where
    module _ (r : Tree) (v : Serves trees all old s (By (statement_of trees T) r (lines_of (tree_at trees at)))) where
      pub serves_line : AreLines trees all s old
      serves_line = let k = count_by (statement_of trees T) r (lines_of (tree_at trees at)) in v.kept s (omega arith) (omega (arith, k))

      pub serves_next : Keeps trees all old new s T at → Serves trees all new (s + 1) (lines_of (tree_at trees at))
      serves_next keeps =
          let t = statement_of trees T in
          let ls = lines_of (tree_at trees at) in
          let k = count_by t r ls in
          let f = v.fits in
          let g : s + 1 + count ls < 2 ^ 32 = omega (arith, k, f) in
          record {
            fits = g;
            kept = λ n le lt. keeps n (v.kept n (omega arith) (omega (arith, k))) (record {
              claim_live = low;
              behind_live = live;
              fits = g;
              cited = λ l m. sym (by_behind t r ls s n l (omega arith)) ∙ v.found n l (omega arith) (omega (arith, k)) m;
            });
            found = λ n l le lt m. sym (differs s l (omega arith) (Some t) (cited_from ls (s + 1) n l)) ∙ (sym (by_behind t r ls s n l (omega arith)) ∙ v.found n l (omega arith) (omega (arith, k)) (omega arith));
          }

  module _ (marks : Bookmarks) (s : ℕ) (c : Tree) (d e : Lines) (t : Tree) (rest : Lines) (v : Serves trees all marks s (Cases c d e t rest)) where
    pub serves_first : (inside : Bookmarks) → ((n : ℕ) → AreLines trees all n marks → AreLines trees all n inside) → Serves trees all inside s d
    serves_first inside keeps =
        let k = count_cases c d e t rest in
        let f = v.fits in
        record {
          fits = omega (arith, k, f);
          kept = λ n le lt. keeps n (v.kept n le (omega (arith, k)));
          found = λ n l le lt m. sym (in_first c d e t rest s n l lt) ∙ v.found n l le (omega (arith, k)) m;
        }

    second_served : (inside : Bookmarks) → ((n : ℕ) → AreLines trees all n marks → AreLines trees all n inside) → Serves trees all inside (s + count d) e
    second_served inside keeps =
        let k = count_cases c d e t rest in
        let f = v.fits in
        record {
          fits = omega (arith, k, f);
          kept = λ n le lt. keeps n (v.kept n (omega arith) (omega (arith, k)));
          found = λ n l le lt m. sym (in_second c d e t rest s n l le lt) ∙ v.found n l (omega arith) (omega (arith, k)) (omega arith);
        }

    pub serves_second : (inside : Bookmarks) → ((n : ℕ) → AreLines trees all n marks → AreLines trees all n inside) → (m : ℕ) → m ≡ s + count d → Serves trees all inside m e
    serves_second inside keeps m k = subst (λ x. Serves trees all inside x e) (sym k) (second_served inside keeps)

  module _ (old new : Bookmarks) (s : ℕ) (c : Tree) (d e : Lines) (T : Claim) (t : Tree) (at : Option NodeId) (low : IsClaimBelow (length trees) T) (live : ChildBelow (length trees) at) (i : Holds t ≡ statement_of trees T) (v : Serves trees all old s (Cases c d e t (lines_of (tree_at trees at)))) where
    rest_served : Keeps trees all old new (s + count d + count e) T at → Serves trees all new (s + count d + count e + 1) (lines_of (tree_at trees at))
    rest_served keeps =
        let ls = lines_of (tree_at trees at) in
        let end = s + count d + count e in
        let k = count_cases c d e t ls in
        let f = v.fits in
        let g : end + 1 + count ls < 2 ^ 32 = omega (arith, k, f) in
        record {
          fits = g;
          kept = λ n le lt. keeps n (v.kept n (omega arith) (omega (arith, k))) (record {
            claim_live = low;
            behind_live = live;
            fits = g;
            cited = λ l m. ap (λ (o : Statement). if end == l then Some o else cited_from ls (end + 1) n l) (sym i) ∙ (sym (in_rest c d e t ls s n l (omega arith)) ∙ v.found n l (omega arith) (omega (arith, k)) (omega arith));
          });
          found = λ n l le lt m. sym (differs end l (omega arith) (Some (Holds t)) (cited_from ls (end + 1) n l)) ∙ (sym (in_rest c d e t ls s n l (omega arith)) ∙ v.found n l (omega arith) (omega (arith, k)) (omega arith));
        }

    pub serves_rest : (m : ℕ) → m ≡ s + count d + count e → Keeps trees all old new m T at → Serves trees all new (m + 1) (lines_of (tree_at trees at))
    serves_rest m k keeps = subst (λ x. Serves trees all new (x + 1) (lines_of (tree_at trees at))) (sym k) (rest_served (subst (λ x. Keeps trees all old new x T at) k keeps))

-- the lines at a node of a chain

module _ (trees : List KindTree) (all : Lines) (marks : Bookmarks) (s : ℕ) where
  pub serves_inside : (inside : Bookmarks) (here : Lines) → ((n : ℕ) → AreLines trees all n marks → AreLines trees all n inside) → Serves trees all marks s here → Serves trees all inside s here
  serves_inside inside here keeps v = record { fits = v.fits; kept = λ n le lt. keeps n (v.kept n le lt); found = v.found }

  pub serves_at : (at : Option NodeId) (k : NodeId) (o : Opened) (L : Line) → at ≡ Some k → tree_at trees (Some k) ≡ Node o.head (tree_at trees o.first) (tree_at trees o.second) → ((rest : Lines) → in_front trees L rest ≡ front (tree_at trees o.first) rest) → Serves trees all marks s (lines_of (tree_at trees at)) → Serves trees all marks s (in_front trees L (lines_of (tree_at trees o.second)))
  serves_at at k o L e f g v = subst (λ ls. Serves trees all marks s ls) (line_at trees at k o L e f g) v
