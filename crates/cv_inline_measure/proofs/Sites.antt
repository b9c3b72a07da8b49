-- The first site with a number.
use Rattle.std.proofs.Common.{◌≡◌, ℕ, true, ◌==◌, if◌then◌else◌, ◌+◌, ◌≤◌, ◌<◌, List, length, drop, get_or, ap, eq-eqb, sym, ◌∙◌, arith, Some, option_map}
use Rattle.std.specs.Prelude.{slice_get}
use Rattle.std.proofs.lemmas.List.{drop_all, drop_more}
use Rattle.std.proofs.lemmas.Option.{slice_get-get_or, slice_get_past}
use Rattle.cv_pool.specs.KindTree.{KindTree}
use Rattle.cv_inline.specs.NextGame.{numbered}
use Rattle.cv_inline.specs.declared.terms.calling.Calling.{Calling}
use Rattle.cv_inline_sites.specs.listing.Callings.{calling_in, callings_in}

numbered_at : (trees : List KindTree) (xs : List Calling) (l k : ℕ) (d : Calling) → k < length xs → numbered l (callings_in trees (drop k xs)) ≡ (if (get_or xs k d).caller.number == l then Some (calling_in trees (get_or xs k d)) else numbered l (callings_in trees (drop (k + 1) xs)))
numbered_at trees xs l k d h = ap (λ ys. numbered l (callings_in trees ys)) (drop_more xs k d h)

pub place_found : (trees : List KindTree) (xs : List Calling) (l k : ℕ) (x : Calling) → k < length xs → x ≡ get_or xs k x → x.caller.number ≡ l → numbered l (callings_in trees (drop k xs)) ≡ numbered l (callings_in trees xs) →
    option_map (calling_in trees) (slice_get xs k) ≡ numbered l (callings_in trees xs)
place_found trees xs l k x h e t i =
    let y = get_or xs k x in
    let u : (y.caller.number == l) ≡ true = ap (λ (c : Calling). c.caller.number == l) (sym e) ∙ eq-eqb x.caller.number l t in
    ap (option_map (calling_in trees)) (slice_get-get_or xs k x h)
    ∙ (sym (numbered_at trees xs l k x h ∙ ap (λ b. if b then Some (calling_in trees y) else numbered l (callings_in trees (drop (k + 1) xs))) u) ∙ i)

-- no site is left
pub place_none : (trees : List KindTree) (xs : List Calling) (l k : ℕ) → length xs ≤ k → numbered l (callings_in trees (drop k xs)) ≡ numbered l (callings_in trees xs) →
    option_map (calling_in trees) (slice_get xs (length xs)) ≡ numbered l (callings_in trees xs)
place_none trees xs l k h i =
    ap (option_map (calling_in trees)) (slice_get_past xs (length xs) (omega arith))
    ∙ (sym (ap (λ ys. numbered l (callings_in trees ys)) (drop_all k xs h)) ∙ i)
