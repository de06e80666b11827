-- What the hosts did grows by a phase.
use Rattle.std.proofs.Common.{List, [], ◌∷◌, ◌++◌, append-nil, append_assoc, refl, sym, ap, subst, ◌∙◌}
use Rattle.history_model.specs.Plain.{PlainItem, PlainPart}
use Rattle.trail_model.specs.Lawful.{Trail}
use Rattle.schedule_model.specs.Deeds.{BeginsWith, HaveDone, HostsDid, Phases, items_by, items_in, items_in_phase}
use Rattle.schedule_model.proofs.Beginnings.{hosts-did}
use Rattle.schedule_model.proofs.Telling.{cancel, did-before, items-append, parts-done, planned-append}
use Rattle.schedule_model.proofs.WholePlans.{DidEach}

-- phases one behind the other in trails one behind the other
did-join : (phases later : Phases) (trail more : Trail) → DidEach phases trail → DidEach later more → DidEach (phases ++ later) (trail ++ more)
did-join [] later trail more did did_more = did-before later trail more did did_more
did-join (phase ∷ phases) later trail more did did_more =
    (did.0, did.1 ++ more, ap (λ (xs : Trail). xs ++ more) did.2 ∙ append_assoc did.0 did.1 more, did.3, did-join phases later did.1 more did.4 did_more)

-- what a host did behind a trail in which it did these phases
behind : (phases later : Phases) (trail whole : Trail) (b : BeginsWith whole trail) → HaveDone phases trail → HaveDone (phases ++ later) whole → HaveDone later b.rest
behind phases later trail whole b did all host is =
    cancel (items_in host phases) (items_by host b.rest) (items_in host later)
    (sym (ap (λ (items : List PlainItem). items ++ items_by host b.rest) (did host is))
    ∙ (sym (items-append host trail b.rest)
    ∙ (sym (ap (items_by host) b.whole)
    ∙ (all host is ∙ planned-append host phases later))))

pub grown : (phases : Phases) (phase : List PlainPart) (trail whole : Trail) → HostsDid phases trail → BeginsWith whole trail → HaveDone (phases ++ phase ∷ []) whole
    → HostsDid (phases ++ phase ∷ []) whole
grown phases phase trail whole h b all =
    let rest = behind phases (phase ∷ []) trail whole b h.all all in
    let more : DidEach (phase ∷ []) b.rest =
    (b.rest, [], sym (append-nil b.rest), (λ host is. rest host is ∙ append-nil (items_in_phase host phase)), (λ host is. refl)) in
    hosts-did (phases ++ phase ∷ []) whole (subst (λ (xs : Trail). DidEach (phases ++ phase ∷ []) xs) (sym b.whole)
    (did-join phases (phase ∷ []) trail b.rest (parts-done phases trail h) more))

pub stayed : (phases : Phases) (trail whole : Trail) → HostsDid phases trail → BeginsWith whole trail → HaveDone phases whole → HostsDid phases whole
stayed phases trail whole h b all =
    let rest = behind phases [] trail whole b h.all (λ host is. all host is ∙ ap (items_in host) (sym (append-nil phases))) in
    hosts-did phases whole (subst (λ (xs : Trail). DidEach phases xs) (sym b.whole)
    (subst (λ (ps : Phases). DidEach ps (trail ++ b.rest)) (append-nil phases) (did-join phases [] trail b.rest (parts-done phases trail h) rest)))

pub nothing-yet : HostsDid [] []
nothing-yet = hosts-did [] [] (λ host is. refl)
