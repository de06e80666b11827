-- The first entries of a legal history are consistent with its plan.
use Rattle.std.proofs.Common.{List, [], ◌∷◌, ◌++◌, subst}
use Rattle.std.specs.List.{AllByRecursion}
use Rattle.std.specs.List.Sorted.{IsPermutation}
use Rattle.std.proofs.lemmas.List.{map-append}
use Rattle.cp_base.specs.Configuration.{Configuration}
use Rattle.script_cmds.specs.declared.item.Phase.{Phase}
use Rattle.device_model.specs.State.{State, opening}
use Rattle.history_model.specs.Entry.{Entry}
use Rattle.history_model.specs.Legal.{IsLegal, Replays, after_entry}
use Rattle.history_model.specs.Sent.{Sent, sends_of}
use Rattle.history_model.proofs.Every.{Pairwise, every-weaker}
use Rattle.history_check.specs.Beginning.{IsBeginning, sents_of}
use Rattle.history_check.proofs.Continuing.{MayPrecede, NotBefore, beginning-of}
use Rattle.history_check.proofs.Lists.{every-of-map, pairwise-across, pairwise-front, pairwise-of-AllPairs}
use Rattle.history_check.proofs.Pairing.{front-paired}

front-replays : (c : Configuration) (s : State) (entries more : List Entry) → Replays c s (entries ++ more) → Replays c s entries
front-replays c s [] more replays = tt
front-replays c s (entry ∷ entries) more replays = (replays.0, front-replays c (after_entry c s entry) entries more replays.1)

pub front-of-legal : (c : Configuration) (plan : List Phase) (entries more : List Entry) → IsLegal c plan (entries ++ more) → IsBeginning c plan entries
front-of-legal c plan entries more legal =
    let pairs : Pairwise MayPrecede (entries ++ more) = pairwise-of-AllPairs MayPrecede (entries ++ more) legal.in_order in
    beginning-of c plan entries (sents_of more) (record {
      each_once = subst (λ (xs : List Sent). IsPermutation xs (sends_of plan)) (map-append (λ (entry : Entry). entry.sent) entries more) legal.each_once;
      in_order = pairwise-front MayPrecede entries more pairs;
      ready = every-weaker (λ (entry : Entry). AllByRecursion (MayPrecede entry) more) (λ (entry : Entry). AllByRecursion (NotBefore entry.sent) (sents_of more))
          (λ entry h. every-of-map (NotBefore entry.sent) (λ (x : Entry). x.sent) more h) entries (pairwise-across MayPrecede entries more pairs);
      replays = front-replays c (opening c) entries more legal.replays;
      paired = front-paired entries more legal.paired;
    })
