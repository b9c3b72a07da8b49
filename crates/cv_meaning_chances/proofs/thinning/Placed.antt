-- A game is thinned where what stands at a place of it is, if the next one reads none of the variables.
use Rattle.std.proofs.Common.{◌≡◌, ℕ, Bool, true}
use Rattle.cv_syntax_trees.specs.declared.head.Head.TheVariants.{Par, Find, Branch, Cons}
use Rattle.cv_syntax_trees.specs.Tree.{Tree, Node}
use Rattle.cv_meaning_runs.specs.Replacement as at
use Rattle.cv_meaning_runs.specs.Replacement.{Part, Process, Branches, IsReplaced}
use Rattle.cv_meaning_chances.specs.unread.Dropping.{reads_none}
use Rattle.cv_meaning_chances.proofs.unread.Unread.{first_reads, second_reads}
use Rattle.cv_meaning_chances.specs.thinning.Thinning.{IsThinned, same, kept, in_parallel, in_list, in_find, in_branch, in_later_branch}

pub thinned_at : (xs : ℕ → Bool) (old new : Tree) (place : ℕ) → IsThinned xs Process old new → (part : Part) (p : ℕ) (game next : Tree) → reads_none xs next ≡ true → IsReplaced old new place part p game next → IsThinned xs part game next
thinned_at xs old new place k part p game next e at.here = k
thinned_at xs old new place k part p game next e (at.in_continuation {h = h} {a = a} {b = b} {c = c} z) = kept (first_reads xs h a c e) (thinned_at xs old new place k Process _ b c (second_reads xs h a c e) z)
thinned_at xs old new place k part p game next e (at.in_parallel {a = a} {b = b} {c = c} z) = in_parallel (thinned_at xs old new place k Process _ a c (first_reads xs Par c b e) z) (same (second_reads xs Par c b e))
thinned_at xs old new place k part p game next e (at.in_list {a = a} {b = b} {c = c} z) = in_list (thinned_at xs old new place k Process _ a c (first_reads xs Cons c b e) z) (same (second_reads xs Cons c b e))
thinned_at xs old new place k part p game next e (at.in_find {l = l} {a = a} {b = b} {c = c} z) =
    in_find (thinned_at xs old new place k Branches _ a c (first_reads xs (Find l) c b e) z) (same (second_reads xs (Find l) c b e))
thinned_at xs old new place k part p game next e (at.in_branch {binders = us} {defined = l} {condition = m} {b = b} {c = c} {more = more} z) =
    let arm : reads_none xs (Node Branch us (Node Cons l (Node Cons m c))) ≡ true = first_reads xs Cons (Node Branch us (Node Cons l (Node Cons m c))) more e in
    let guards : reads_none xs (Node Cons l (Node Cons m c)) ≡ true = second_reads xs Branch us (Node Cons l (Node Cons m c)) arm in
    let guarded : reads_none xs (Node Cons m c) ≡ true = second_reads xs Cons l (Node Cons m c) guards in
    in_branch (first_reads xs Branch us (Node Cons l (Node Cons m c)) arm) (first_reads xs Cons l (Node Cons m c) guards) (first_reads xs Cons m c guarded)
    (thinned_at xs old new place k Process _ b c (second_reads xs Cons m c guarded) z) (same (second_reads xs Cons (Node Branch us (Node Cons l (Node Cons m c))) more e))
thinned_at xs old new place k part p game next e (at.in_later_branch {a = a} {b = b} {c = c} z) = in_later_branch (first_reads xs Cons a c e) (thinned_at xs old new place k Branches _ b c (second_reads xs Cons a c e) z)
