-- Games are spelled by their signs.
use Rattle.std.proofs.Common.{ℕ, zero, suc, ◌≤◌, max, refl, sym, subst}
use Rattle.std.proofs.lemmas.Bool.{both_ways}
use Rattle.cv_syntax_trees.specs.declared.head.Head.{Head}
use Rattle.cv_syntax_trees.specs.declared.head.Head.TheVariants.{Stop, Yield, Par, Repl, In, Out, Event, New, Let, If, Find, Branch, Cons}
use Rattle.cv_syntax_trees.specs.Tree.{Tree, Empty, Node}
use Rattle.cv_scope_rules.specs.Phrases.{Nil, Inputs, Body, Then, Else, Branches, Arm, Guards, Guarded, Pattern, Message, Indices, Binders, Cells, Terms, Term, is_phrase}
use Rattle.cv_print_bytes.specs.terminals.Levels.{branch_levels, branches_levels, levels_of, term_levels, terms_levels}
use Rattle.cv_print_bytes.specs.terminals.Written.{IsWritten}
use Rattle.cv_print_bytes.proofs.terminals.Constructs.{BeginsBehind, BranchAt, InputAt, MoreBranches, OutputAt, branch_behind, branch_is, event_is, find_is, if_is, in_is, let_is, new_is, none_more, one_more, out_is, par_is, repl_is, stop_is, yield_is}
use Rattle.cv_print_bytes.proofs.terminals.Phrases.{both_below, deep, deep_beside, nil_is, no_phrase, parted}
use Rattle.cv_print_bytes.proofs.terminals.Terms.{leaf_alone, term_is}
use Rattle.cv_print_bytes.proofs.terminals.Lists.{entry}

-- a branch begins with the words before it
begins_behind : (t : Tree) → IsWritten Arm t → BeginsBehind t
unfolding is_phrase
begins_behind (Node Branch l (Node Cons c (Node Cons m b))) w before = branch_behind before Branch Cons Cons l c m b
begins_behind (Node Branch l (Node Cons c x)) w before = absurd (no_phrase Guarded x refl (parted Guards Cells Guarded Cons c x refl (parted Arm Binders Guards Branch l (Node Cons c x) refl w).second).second)
begins_behind (Node Branch l x) w before = absurd (no_phrase Guards x refl (parted Arm Binders Guards Branch l x refl w).second)
begins_behind t w before = absurd (no_phrase Arm t refl w)

mutual
  unfolding is_phrase levels_of

  pub input_is : (t : Tree) → IsWritten Inputs t → (n : ℕ) → levels_of t ≤ n → InputAt n t
  input_is (Node Stop a b) w n l = leaf_alone Stop (InputAt n) a b (parted Inputs Nil Nil Stop a b refl w) (stop_is n)
  input_is (Node Par a b) w n l =
      let p = parted Inputs Inputs Inputs Par a b refl w in
      deep_beside (λ m. InputAt m (Node Par a b)) n (levels_of a) (levels_of b) l (λ m i j. par_is m a b (input_is a p.first (suc m) i) (input_is b p.second m j))
  input_is (Node (Repl (suc i) (suc k)) a b) w n l =
      let p = parted Inputs Nil Inputs (Repl (suc i) (suc k)) a b refl w in
      entry (Repl (suc i) (suc k)) (InputAt n) a b p.first (deep (λ m. InputAt m (Node (Repl (suc i) (suc k)) Empty b)) n (levels_of b) l (λ m j. repl_is m i k b (input_is b p.second m j)))
  input_is (Node (Repl i k) a b) w n l = absurd (both_ways _ refl (parted Inputs Nil Inputs (Repl i k) a b refl w).here)
  input_is (Node (In (suc c)) (Node Cons v x) b) w n l =
      let p = parted Inputs Pattern Body (In (suc c)) (Node Cons v x) b refl w in
      let q = parted Pattern Indices Binders Cons v x refl p.first in
      deep (λ m. InputAt m (Node (In (suc c)) (Node Cons v x) b)) n (max 1 (levels_of b)) l (λ m j.
      deep (λ m. levels_of b ≤ m → InputAt (suc m) (Node (In (suc c)) (Node Cons v x) b)) m 0 (both_below 1 (levels_of b) m j).0 (λ m i k.
      in_is m c v x b q.first q.second (output_is b p.second (suc m) k)
      ) (both_below 1 (levels_of b) m j).1
      )
  input_is (Node (In zero) a b) w n l = absurd (both_ways _ refl (parted Inputs Pattern Body (In zero) a b refl w).here)
  input_is (Node (In c) a b) w n l = absurd (no_phrase Pattern a refl (parted Inputs Pattern Body (In c) a b refl w).first)
  input_is t w n l = absurd (no_phrase Inputs t refl w)

  pub output_is : (t : Tree) → IsWritten Body t → (n : ℕ) → levels_of t ≤ n → OutputAt n t
  output_is (Node Yield a b) w n l = leaf_alone Yield (OutputAt n) a b (parted Body Nil Nil Yield a b refl w) (yield_is n)
  output_is (Node (Out (suc c)) (Node Cons v x) b) w n l =
      let p = parted Body Message Inputs (Out (suc c)) (Node Cons v x) b refl w in
      let q = parted Message Indices Terms Cons v x refl p.first in
      deep (λ m. OutputAt m (Node (Out (suc c)) (Node Cons v x) b)) n (max (suc (terms_levels x)) (levels_of b)) l (λ m j.
      deep (λ m. levels_of b ≤ m → OutputAt (suc m) (Node (Out (suc c)) (Node Cons v x) b)) m (terms_levels x) (both_below (suc (terms_levels x)) (levels_of b) m j).0 (λ m i k.
      out_is m c v x b q.first q.second i (input_is b p.second (suc m) k)
      ) (both_below (suc (terms_levels x)) (levels_of b) m j).1
      )
  output_is (Node (Out zero) a b) w n l = absurd (both_ways _ refl (parted Body Message Inputs (Out zero) a b refl w).here)
  output_is (Node (Out c) a b) w n l = absurd (no_phrase Message a refl (parted Body Message Inputs (Out c) a b refl w).first)
  output_is (Node (New (suc x) T) a b) w n l =
      let p = parted Body Nil Body (New (suc x) T) a b refl w in
      entry (New (suc x) T) (OutputAt n) a b p.first (deep (λ m. OutputAt m (Node (New (suc x) T) Empty b)) n (levels_of b) l (λ m j. new_is m x T b (output_is b p.second m j)))
  output_is (Node (New zero T) a b) w n l = absurd (both_ways _ refl (parted Body Nil Body (New zero T) a b refl w).here)
  output_is (Node (Let (suc x) T) a b) w n l =
      let p = parted Body Term Body (Let (suc x) T) a b refl w in
      deep (λ m. OutputAt m (Node (Let (suc x) T) a b)) n (max (term_levels a) (levels_of b)) l (λ m j.
      let k = both_below (term_levels a) (levels_of b) m j in let_is m x T a b (term_is a p.first m k.0) (output_is b p.second m k.1)
      )
  output_is (Node (Let zero T) a b) w n l = absurd (both_ways _ refl (parted Body Term Body (Let zero T) a b refl w).here)
  output_is (Node (Event (suc e)) a b) w n l =
      let p = parted Body Terms Body (Event (suc e)) a b refl w in
      deep (λ m. OutputAt m (Node (Event (suc e)) a b)) n (max (terms_levels a) (levels_of b)) l (λ m j.
      let k = both_below (terms_levels a) (levels_of b) m j in event_is m e a b p.first k.0 (output_is b p.second m k.1)
      )
  output_is (Node (Event zero) a b) w n l = absurd (both_ways _ refl (parted Body Terms Body (Event zero) a b refl w).here)
  output_is (Node If a (Node Cons b (Node Cons c Empty))) w n l =
      let p = parted Body Term Then If a (Node Cons b (Node Cons c Empty)) refl w in
      let q = parted Then Body Else Cons b (Node Cons c Empty) refl p.second in
      let r = parted Else Body Nil Cons c Empty refl q.second in
      deep (λ m. OutputAt m (Node If a (Node Cons b (Node Cons c Empty)))) n (max (term_levels a) (max (levels_of b) (max (levels_of c) 0))) l (λ m j.
      let k = both_below (term_levels a) (max (levels_of b) (max (levels_of c) 0)) m j in
      let i = both_below (levels_of b) (max (levels_of c) 0) m k.1 in
      if_is m a b c (term_is a p.first m k.0) (output_is b q.first m i.0) (output_is c r.first m (both_below (levels_of c) 0 m i.1).0)
      )
  output_is (Node If a (Node Cons b (Node Cons c x))) w n l = absurd (no_phrase Nil x refl (parted Else Body Nil Cons c x refl (parted Then Body Else Cons b (Node Cons c x) refl (parted Body Term Then If a (Node Cons b (Node Cons c x)) refl w).second).second).second)
  output_is (Node If a (Node Cons b x)) w n l = absurd (no_phrase Else x refl (parted Then Body Else Cons b x refl (parted Body Term Then If a (Node Cons b x) refl w).second).second)
  output_is (Node If a x) w n l = absurd (no_phrase Then x refl (parted Body Term Then If a x refl w).second)
  output_is (Node (Find k) (Node Cons a b) c) w n l =
      let p = parted Body Branches Body (Find k) (Node Cons a b) c refl w in
      let q = parted Branches Arm Branches Cons a b refl p.first in
      deep (λ m. OutputAt m (Node (Find k) (Node Cons a b) c)) n (max (max (branch_levels a) (branches_levels b)) (levels_of c)) l (λ m j.
      let i = both_below (max (branch_levels a) (branches_levels b)) (levels_of c) m j in
      let o = both_below (branch_levels a) (branches_levels b) m i.0 in
      find_is m k a b c (begins_behind a q.first) (branch_at a q.first m o.0) (branches_at b q.second m o.1) (output_is c p.second m i.1)
      )
  output_is (Node (Find k) Empty c) w n l = absurd (both_ways _ refl (parted Body Branches Body (Find k) Empty c refl w).here)
  output_is (Node (Find k) a c) w n l = absurd (no_phrase Branches a refl (parted Body Branches Body (Find k) a c refl w).first)
  output_is t w n l = absurd (no_phrase Body t refl w)

  branches_at : (t : Tree) → IsWritten Branches t → (n : ℕ) → branches_levels t ≤ n → MoreBranches (suc n) t
  branches_at Empty w n l = none_more (suc n)
  branches_at (Node Cons a b) w n l =
      let p = parted Branches Arm Branches Cons a b refl w in
      let k = both_below (branch_levels a) (branches_levels b) n l in
      one_more n a b (begins_behind a p.first) (branch_at a p.first n k.0) (branches_at b p.second n k.1)
  branches_at t w n l = absurd (no_phrase Branches t refl w)

  branch_at : (t : Tree) → IsWritten Arm t → (n : ℕ) → branch_levels t ≤ n → BranchAt n t
  branch_at (Node Branch v (Node Cons c (Node Cons m b))) w n l =
      let p = parted Arm Binders Guards Branch v (Node Cons c (Node Cons m b)) refl w in
      let q = parted Guards Cells Guarded Cons c (Node Cons m b) refl p.second in
      let r = parted Guarded Term Body Cons m b refl q.second in
      deep (λ j. BranchAt j (Node Branch v (Node Cons c (Node Cons m b)))) n (max (terms_levels c) (max (term_levels m) (levels_of b))) l (λ j k.
      let i = both_below (terms_levels c) (max (term_levels m) (levels_of b)) j k in
      let o = both_below (term_levels m) (levels_of b) j i.1 in
      branch_is j v c m b p.first p.here q.first i.0 r.first (term_is m r.first j o.0) (output_is b r.second j o.1)
      )
  branch_at (Node Branch v (Node Cons c x)) w n l = absurd (no_phrase Guarded x refl (parted Guards Cells Guarded Cons c x refl (parted Arm Binders Guards Branch v (Node Cons c x) refl w).second).second)
  branch_at (Node Branch v x) w n l = absurd (no_phrase Guards x refl (parted Arm Binders Guards Branch v x refl w).second)
  branch_at t w n l = absurd (no_phrase Arm t refl w)
