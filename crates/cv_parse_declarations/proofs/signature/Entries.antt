-- What the rows of a collision read, as their readers say it.
use Rattle.std.proofs.Common.{◌≡◌, ◌≤◌, ◌∷◌, ◌++◌, ℕ, Bool, true, false, List, [], append-nil, drop, length, reverse, refl, ap, sym, ◌∙◌, subst, lit<, None, Some, Result, Ok, Err}
use Rattle.std.specs.declared.vec.Vec.{Vec}
use Rattle.std.specs.declared.alloc.Global.{Global}
use Rattle.cv_syntax.specs.declared.make.Make.{Make}
use Rattle.cv_syntax.specs.declared.make.Make.TheVariants.{Nothing}
use Rattle.cv_syntax.specs.Postorder.{postorder}
use Rattle.cv_syntax_trees.specs.Tree.{Empty, Tree}
use Rattle.cv_parse_notation.specs.declared.sign.Sign.{Sign}
use Rattle.cv_parse_notation.specs.declared.sign.Mark.TheVariants as mark
use Rattle.cv_parse_notation.specs.Form.{◌▸◌, ◌◂◌}
use Rattle.cv_parse_notation.specs.Spells.{is_mark, next_is}
use Rattle.cv_parse_notation.specs.Reads.{◌>>=◌, mapped, nothing, pick}
use Rattle.cv_parse_grammar.specs.declared.role.Role.TheVariants.{BindsLocal}
use Rattle.cv_parse_grammar.specs.Phrases.{Phrase, or_else, typed, vars}
use Rattle.cv_parse_grammar.specs.Declarations.{forall_vars, probability}
use Rattle.cv_parse_terms.specs.declared.lookahead.ReadError.{ReadError}
use Rattle.cv_parse_terms.specs.declared.trail.Trail.{Trail}
use Rattle.cv_parse_terms.specs.Gives.{Fails, IsRead, Makes, read_in}
use Rattle.cv_parse_terms.specs.Tables.{Parts, Stops, last_name, row_in, work_of}
use Rattle.cv_parse_terms.specs.TermRows.{Enters, EntersWith, row_count, term_rows}
use Rattle.cv_parse_terms.proofs.Chains.{first_read, made_read}
use Rattle.cv_parse_terms.proofs.Entries.{enters_fails, enters_put, enters_says}
use Rattle.cv_parse_terms.proofs.Levels.{fails_first}
use Rattle.cv_parse_terms.proofs.Places.{fails_bind}
use Rattle.cv_parse_declarations.specs.signature.Sides.{key_parts}
use Rattle.cv_parse_declarations.proofs.Says.{says_key, says_probability}
use Rattle.cv_parse_declarations.proofs.signature.Says.{says_some_forall}

pub enters_key : (n : ℕ) (all : List Sign) (at : ℕ) (old new : Trail) (result : Result ℕ ReadError) → Enters 207 n all at old result new → Makes key_parts all old new result (read_in n (typed BindsLocal) (drop at all))
enters_key n all at old new result h = enters_says key_parts n 207 all at old new result (lit< tt) (says_key n) h

abbrev some_vars : Phrase Tree
some_vars = mark.Forall ▸ (vars BindsLocal ◂ mark.Semicolon)

some_forall : (n : ℕ) (all : List Sign) (at : ℕ) (old new : Trail) (result : Result ℕ ReadError) → next_is (is_mark mark.Forall) (drop at all) ≡ true → Makes postorder all old new result (read_in n some_vars (drop at all)) → Makes postorder all old new result (read_in n forall_vars (drop at all))
some_forall n all at old new (Ok end) b d = record {
  value = d.value;
  read = made_read (or_else Empty) (first_read (next_is (is_mark mark.Forall) (drop at all)) (λ us. read_in n some_vars us >>= mapped Some) (nothing _) (drop at all) b (made_read Some d.read));
  makes = d.makes;
}
some_forall n all at old new (Err e) b d =
    fails_bind all e _ _ (fails_first all e (next_is (is_mark mark.Forall) (drop at all)) (λ us. read_in n some_vars us >>= mapped Some) (nothing _) (drop at all) b (fails_bind all e _ _ d))

pub enters_forall : (n : ℕ) (all : List Sign) (at : ℕ) (old new : Trail) (result : Result ℕ ReadError) → next_is (is_mark mark.Forall) (drop at all) ≡ true → Enters 151 n all at old result new → Makes postorder all old new result (read_in n forall_vars (drop at all))
enters_forall n all at old new result b h = some_forall n all at old new result b (enters_says postorder n 151 all at old new result (lit< tt) (says_some_forall n) h)

pub no_forall : (n : ℕ) (all : List Sign) (at : ℕ) (old : Trail) (makes : Vec Make Global) → at ≤ length all → next_is (is_mark mark.Forall) (drop at all) ≡ false → makes.items ≡ old.makes.items ++ Nothing ∷ [] → Makes postorder all old (record { uses = old.uses; makes = makes }) (Ok at) (read_in n forall_vars (drop at all))
unfolding postorder
no_forall n all at old makes l b h = record {
  value = Empty;
  read = made_read (or_else Empty) (none_read (next_is (is_mark mark.Forall) (drop at all)) b);
  makes = h;
} where
  none_read : (c : Bool) → c ≡ false → IsRead all old.uses.items old.uses.items (pick c (λ us. read_in n some_vars us >>= mapped Some) (nothing None) (drop at all)) None at
  none_read true e = absurd (cc)
  none_read false e = record { uses = []; is = refl; noted = sym (append-nil _); within = l }

-- a probability waits, and no part is made
pub probability_read : (n : ℕ) (all : List Sign) (at end x : ℕ) (old new : Trail) (ms ns : List ℕ) → ms ≡ [] → EntersWith 191 n all at old ms (Ok end) new ns → x ≡ last_name (reverse ns) → IsRead all old.uses.items new.uses.items (read_in n probability (drop at all)) x end × (new.makes.items ≡ old.makes.items)
probability_read n all at end x old new ms ns e h i =
    let d = enters_put n 191 all at end old new ns (lit< tt) (says_probability n) (subst (λ l. EntersWith 191 n all at old l (Ok end) new ns) e h) in
    (subst (λ y. IsRead all old.uses.items new.uses.items (read_in n probability (drop at all)) y end) (sym (i ∙ ap (λ (q : Parts). last_name q.names) d.parts)) d.read, ap (λ (q : Parts). q.makes) d.parts)

pub probability_fails : (n : ℕ) (all : List Sign) (at : ℕ) (old : Trail) (ms : List ℕ) (x : ReadError) → ms ≡ [] → Stops all x (row_in term_rows n row_count 191 (work_of old ms (drop at all))) → Fails all x (read_in n probability (drop at all))
probability_fails n all at old ms x e h = enters_fails n 191 all at old x (lit< tt) (says_probability n) (subst (λ l. Stops all x (row_in term_rows n row_count 191 (work_of old l (drop at all)))) e h)
