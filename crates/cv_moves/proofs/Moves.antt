-- The moves among steps that are found.
use Rattle.std.proofs.Common.{◌≡◌, ℕ, ◌<◌, ◌≤◌, Bool, true, false, List, [], ◌∷◌, ◌++◌, refl, ap, sym, ◌∙◌, subst, arith}
use Rattle.cv_syntax_trees.specs.Tree.{Node, Tree}
use Rattle.cv_syntax_trees.specs.declared.head.Head.TheVariants.{ArrayRenameStep, CryptoStep, UnletStep}
use Rattle.cv_moves.specs.Moves.{AreMoves, is_move, moves_among, moves_more}

moves_put : (advised : Bool) (ts : List Tree) (t : Tree) → moves_among advised (ts ++ t ∷ []) ≡ moves_more (is_move advised t) (moves_among advised ts)
moves_put advised [] t = refl
moves_put advised (u ∷ ts) t = ap (moves_more (is_move advised u)) (moves_put advised ts t) ∙ swapped (is_move advised u) (is_move advised t) (moves_among advised ts)
  where
    swapped : (a b : Bool) (n : ℕ) → moves_more a (moves_more b n) ≡ moves_more b (moves_more a n)
    swapped true true n = refl
    swapped true false n = refl
    swapped false true n = refl
    swapped false false n = refl

-- an `unlet` that isn't advised counts no more than one that is

more_alike : (a : Bool) (m n : ℕ) → m ≤ n → moves_more a m ≤ moves_more a n
more_alike true m n l = omega arith
more_alike false m n l = l

more_advised : (step : Tree) (m n : ℕ) → m ≤ n → moves_more (is_move false step) m ≤ moves_more (is_move true step) n
more_advised (Node CryptoStep a b) m n l = omega arith
more_advised (Node ArrayRenameStep a b) m n l = omega arith
more_advised (Node UnletStep a b) m n l = omega arith
more_advised t m n l = l

put_least : (advised : Bool) (step : Tree) (m n : ℕ) → m ≤ n → moves_more (is_move false step) m ≤ moves_more (is_move advised step) n
put_least true step m n l = more_advised step m n l
put_least false step m n l = more_alike (is_move false step) m n l

put_most : (advised : Bool) (step : Tree) (m n : ℕ) → m ≤ n → moves_more (is_move advised step) m ≤ moves_more (is_move true step) n
put_most true step m n l = more_alike (is_move true step) m n l
put_most false step m n l = more_advised step m n l

pub moves_counted : (found all : List Tree) (step : Tree) (advised moved : Bool) (made : ℕ) → all ≡ found ++ step ∷ [] → moved ≡ is_move advised step → AreMoves found made → AreMoves all (moves_more moved made)
moves_counted found all step advised moved made e m n =
    let now : (a : Bool) → moves_among a all ≡ moves_more (is_move a step) (moves_among a found) = λ a. ap (moves_among a) e ∙ moves_put a found step in
    subst (λ b. AreMoves all (moves_more b made)) (sym m)
    (record {
      least = subst (λ k. k ≤ moves_more (is_move advised step) made) (sym (now false)) (put_least advised step (moves_among false found) made n.least);
      most = subst (λ k. moves_more (is_move advised step) made ≤ k) (sym (now true)) (put_most advised step made (moves_among true found) n.most);
    })

pub moves_few : (moved : Bool) (made moves : ℕ) → made ≤ moves → (moved ≡ true → made < moves) → moves_more moved made ≤ moves
moves_few true made moves l f = let less : made < moves = f refl in omega arith
moves_few false made moves l f = l
