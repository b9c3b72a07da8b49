-- What is made at the end of a list of parts.
use Rattle.std.proofs.Common.{◌≡◌, ℕ, zero, suc, ◌+◌, ◌-◌, ◌<◌, ◌≤◌, List, [], ◌∷◌, ◌++◌, length, refl, ap, sym, ◌∙◌, arith, append_assoc, append-nil, length-append}
use Rattle.std.proofs.lemmas.List.{replicate_more}
use Rattle.std.specs.Prelude.{replicate, flat_map}
use Rattle.cv_syntax_trees.specs.declared.head.Head.{Head}
use Rattle.cv_syntax_trees.specs.declared.head.Head.TheVariants.{Cons}
use Rattle.cv_syntax.specs.declared.make.Make.TheVariants.{Over}
use Rattle.cv_syntax_trees.specs.Tree.{Tree}
use Rattle.cv_syntax.specs.Postorder.{postorder}
use Rattle.cv_parse_tables.specs.Trees.{single, over, single_parts, over_parts}

-- the parts of one tree of all
pub single_made : (ts : List Tree) → flat_map postorder ts ++ single_parts (length ts) ≡ postorder (single ts)
unfolding postorder
single_made [] = refl
single_made (t ∷ []) = append-nil (postorder t ++ []) ∙ append-nil (postorder t)
single_made (t ∷ (u ∷ ts)) =
    append_assoc (postorder t) (flat_map postorder (u ∷ ts)) (replicate (suc (length ts)) (Over Cons))
    ∙ ap (λ l. postorder t ++ l) (ap (λ l. flat_map postorder (u ∷ ts) ++ l) (ap (λ k. replicate k (Over Cons)) (let e : suc (length ts) ≡ length ts + 1 = omega arith in e) ∙ sym (replicate_more (length ts) (Over Cons)))
    ∙ (sym (append_assoc (flat_map postorder (u ∷ ts)) (replicate (length ts) (Over Cons)) (Over Cons ∷ [])) ∙ ap (λ l. l ++ Over Cons ∷ []) (single_made (u ∷ ts))))

-- the parts of a node over all
pub over_made : (h : Head) (ts : List Tree) → flat_map postorder ts ++ over_parts h (length ts) ≡ postorder (over h ts)
unfolding postorder
over_made h [] = refl
over_made h (t ∷ ts) =
    append_assoc (postorder t) (flat_map postorder ts) (single_parts (length ts) ++ Over h ∷ [])
    ∙ ap (λ l. postorder t ++ l) (sym (append_assoc (flat_map postorder ts) (single_parts (length ts)) (Over h ∷ [])) ∙ ap (λ l. l ++ Over h ∷ []) (single_made ts))

pub single_parts_at : (n : ℕ) → 1 ≤ n → single_parts n ≡ replicate (n - 1) (Over Cons)
single_parts_at zero h = absurd (omega arith)
single_parts_at (suc n) h = ap (λ k. replicate k (Over Cons)) (omega arith)

pub over_parts_at : (h : Head) (n : ℕ) → 1 ≤ n → over_parts h n ≡ single_parts (n - 1) ++ Over h ∷ []
over_parts_at h zero l = absurd (omega arith)
over_parts_at h (suc n) l = ap (λ k. single_parts k ++ Over h ∷ []) (omega arith)

pub ruleset parts = (single_parts_at, over_parts_at, replicate_more, append_assoc, append-nil)
