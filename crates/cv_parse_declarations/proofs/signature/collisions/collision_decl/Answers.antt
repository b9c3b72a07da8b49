use Rattle.std.proofs.lemmas.Result.{err_from_is_err_and}
use Rattle.std.proofs.Common.{ℕ, ◌∷◌, [], List, drop, ◌∙◌}
use Rattle.cv_syntax_trees.specs.Tree.{Tree, Node}
use Rattle.cv_syntax_trees.specs.Declarations.{Equiv}
use Rattle.cv_syntax_trees.specs.declared.head.Head.TheVariants.{Equivalence}
use Rattle.cv_parse_notation.specs.Form.{note, ◌&◌, ◌▸◌, ◌◂◌}
use Rattle.cv_parse_notation.specs.declared.sign.Sign.{Sign}
use Rattle.cv_parse_notation.specs.declared.sign.Mark.TheVariants as mark
use Rattle.cv_parse_grammar.specs.declared.role.Region.TheVariants.{InEquivalence}
use Rattle.cv_parse_grammar.specs.declared.role.Role.TheVariants.{BindsLocal, Enters, Leaves}
use Rattle.cv_parse_grammar.specs.Phrases.{Phrase, inside, typed}
use Rattle.cv_parse_grammar.specs.Terms.{term}
use Rattle.cv_parse_grammar.specs.Equivalences.{lone_group}
use Rattle.cv_parse_grammar.specs.Declarations.{collision, collision_decl, collision_name, forall_vars, probability}
use Rattle.cv_parse_terms.specs.declared.lookahead.ReadError.{ReadError}
use Rattle.cv_parse_terms.specs.declared.trail.NameUse.{NameUse}
use Rattle.cv_parse_terms.specs.Gives.{Fails, IsRead, read_in, read_note}
use Rattle.cv_parse_terms.proofs.Chains.{both_read, made_read, sign_both}
use Rattle.cv_parse_terms.proofs.Places.{fails_bind}
use Rattle.cv_parse_declarations.proofs.signature.Faults.{fails_behind_sign, fails_second}
use Rattle.cv_parse_declarations.proofs.signature.Gathering.{groups_made, kept, taken_away}
use Rattle.cv_parse_declarations.proofs.signature.Listed.{is_there, one_made}
use Rattle.cv_parse_declarations.proofs.signature.collisions.collision_decl.Goals as goal

abbrev terms : Phrase (Tree × (Tree × (ℕ × Tree)))
terms = forall_vars & (term & (probability & (term ◂ mark.Dot)))

abbrev body : Phrase ((ℕ × ℕ) × (Tree × (Tree × (ℕ × Tree))))
body = mark.New ▸ (typed BindsLocal & (mark.Semicolon ▸ terms))

-- a fault behind the name
fails_inside : {u v w : List NameUse} {x a k : ℕ} (all : List Sign) (e : ReadError) (n at : ℕ) → IsRead all u v (read_in n collision_name (drop at all)) x k → IsRead all v w (read_note (Enters InEquivalence) (drop k all)) a k → Fails all e (read_in n body (drop k all)) → Fails all e (read_in n collision_decl (drop at all))
fails_inside {k = k} all e n at name enters h =
    fails_bind all e _ _ (fails_second all e n at collision_name (inside InEquivalence body) name
    (fails_bind all e _ _ (fails_second all e n k (note (Enters InEquivalence)) (body & note Leaves) enters (fails_bind all e _ _ h))))

pub returns : goal.returns
returns c =
    let k = c.in_ok-place-2.ensures.makes in
    let start = c.len-start.ensures ∙ c.args.trail.now.makes.ok.0 in
    let d = c.in_ok-bound.ensures.makes in
    let p = c.in_ok-bound.bound in
    let x = c.in_ok-name.name in
    let n = c.args.depth in
    let l = lone_group x k.value d.args d.left in
    let r = lone_group x k.value d.args d.right in
    let t = Node (Equivalence p) l r in
    record {
      declares = record {
        value = Equiv x t ∷ [];
        read =
            made_read (λ (x, (key, (args, (l, (p, r))))). collision x key args l p r ∷ [])
            (both_read (read_in n (inside InEquivalence body)) c.in_ok-name.ensures.gives
            (made_read (λ (n, (a, m)). a)
            (both_read (read_in n (body & note Leaves)) c.in_ok-note.ensures.gives
            (both_read (read_note Leaves)
            (made_read (λ p. p.1) (sign_both mark.New _ _ (read_in n (typed BindsLocal & (mark.Semicolon ▸ terms))) c.in_ok-place.ensures.read
            (both_read (read_in n (mark.Semicolon ▸ terms)) k.read
            (made_read (λ p. p.1) (sign_both mark.Semicolon _ _ (read_in n terms) c.in_ok-place-3.ensures.read d.read)))))
            c.in_ok-note-2.ensures.gives))));
        heard = c.in_ok-push-2.ensures.items;
        makes =
            one_made (Equiv x t) _ _
            (groups_made x p k.value c.deref.result.now d.args d.left d.right _ _ _ _
            (c.deref.ensures.value ∙ (c.in_ok-key.ensures.tail ∙ taken_away _ _ _ _ start k.makes))
            (c.in_ok-key.ensures.items ∙ kept _ _ _ _ start k.makes) d.makes c.in_ok-push.ensures.items);
        whole = (is_there (Equivalence p) l r, tt);
      };
    }

pub returns-in_err-bound : goal.returns-in_err-bound
returns-in_err-bound c =
    let p = err_from_is_err_and c.from_residual-in_err-bound.result c.from_residual-in_err-bound.ensures.1 in
    record {
      declares = rw (p.1, p.2) (fails_inside c.args.signs.now _ c.args.depth c.args.at c.in_ok-name.ensures.gives c.in_ok-note.ensures.gives
          (fails_behind_sign c.args.signs.now _ c.args.depth _ mark.New (typed BindsLocal & (mark.Semicolon ▸ terms)) c.in_ok-place.ensures.read
          (fails_second c.args.signs.now _ c.args.depth _ (typed BindsLocal) (mark.Semicolon ▸ terms) c.in_ok-place-2.ensures.makes.read
          (fails_behind_sign c.args.signs.now _ c.args.depth _ mark.Semicolon terms c.in_ok-place-3.ensures.read c.in_err-bound.ensures.makes))));
    }
