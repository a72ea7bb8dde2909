-- The worked cases, and what is given can be had. Assumes nothing.
use Rattle.std.proofs.Common.{◌≡◌, true, false, List, [], ◌∷◌, ◌++◌, None, refl}
use Rattle.crc.specs.Crc.{repeated, bit_step, byte_step, crc32c}
use Rattle.keys.specs.Keys.{among, twice}
use Rattle.event.specs.Identifiers.{has, switched}
use Rattle.event.specs.Outcomes.{done}
use Rattle.event.specs.Sources.{lawful_id, lawful_reading, all_lawful}
use Rattle.board.specs.Boards.{at, lawful_board, takes, reread, after_set}
use Rattle.list.specs.Lists.{these, occurrence_bytes, body, over, list_bytes, lawful_told, fronts, read_list}
use Rattle.marks.specs.Marking.{unmarked, update, listed_from}
use Rattle.wire.specs.Checks.{checked, unchecked, is_checked}
use Rattle.wire.specs.Messages.{read_framed, event_message, read_event, answer_message, read_answer}
use Rattle.wire.specs.Requests.{items_bytes, request_message, items_fit, items_in, request_refusal, kind_of}
use Rattle.carrier.specs.Carriers.{linked}
use Rattle.protocol.specs.Endpoint.{known, enabling, present}
use Rattle.protocol.specs.Book.{find, enter, merge}
use Rattle.protocol.specs.declared.types.Phase.TheVariants.{Settled}
use Rattle.protocol.specs.Pair.{Pair, new_pair, Call, changes, run, outcomes}
use Rattle.protocol.specs.Promise.{JustSynced}
use Rattle.protocol.specs.Cases.{warm, one_source, on, syncing, changing, acknowledging, WorkedCases, ChangeIsShown, TwoPasts}

pub worked-cases : WorkedCases
unfolding occurrence_bytes body over list_bytes items_bytes items_in known enabling switched has listed_from unmarked update event_message checked
worked-cases = (refl, (refl, (refl, (refl, (refl, (refl, (refl, (refl, (refl, tt)))))))))

pub change-is-shown : ChangeIsShown
unfolding repeated bit_step byte_step crc32c among twice has switched lawful_id lawful_reading at all_lawful lawful_board takes reread after_set occurrence_bytes body over list_bytes lawful_told fronts read_list unmarked update listed_from checked unchecked is_checked read_framed event_message read_event answer_message read_answer items_bytes request_message items_fit items_in request_refusal kind_of known enabling present find enter merge
change-is-shown = record {
  lawful = refl;
  given = (tt, (λ x. (refl, refl), (λ x. refl, (tt, (tt, (tt, (tt, (λ x. (refl, refl), (λ x. refl, tt)))))))));
  shows = refl;
}

-- after these calls of a new pair
abbrev before : List Call → Pair
before calls = run (new_pair one_source (linked true None)) calls

-- and the sync
abbrev after : List Call → Pair
after calls = run (before calls) (syncing 0x1E)

-- the sync is complete if it handed back its request, its answer and nothing
just_synced : (calls : List Call) → outcomes (before calls) (syncing 0x1E) ≡ done (request_message 0 0 (on ∷ [])) ∷ done (answer_message false (these (warm ∷ []))) ∷ done [] ∷ [] → (after calls).book.phase ≡ Settled →
    JustSynced 9 (request_message 0 0 (on ∷ [])) (after calls)
unfolding among twice lawful_id lawful_reading all_lawful lawful_board
just_synced calls handed settled = record {
  board = one_source;
  lawful = refl;
  line = linked true None;
  calls = calls;
  items = on ∷ [];
  delay = 0;
  retry = 0;
  writing_room = 217;
  answer_room = 4115;
  answer = answer_message false (these (warm ∷ []));
  last = (handed, refl);
  settled = settled;
}

-- the temperature changed, was shown and changed back
abbrev past : List Call
past = syncing 0x1E ++ (changing ++ (acknowledging ++ (changes 0 (0x1E ∷ []) ∷ [])))

pub two-pasts : TwoPasts
unfolding repeated bit_step byte_step crc32c among twice has switched lawful_id lawful_reading at all_lawful lawful_board takes reread after_set occurrence_bytes body over list_bytes lawful_told fronts read_list unmarked update listed_from checked unchecked is_checked read_framed event_message read_event answer_message read_answer items_bytes request_message items_fit items_in request_refusal kind_of known enabling present find enter merge
two-pasts = record {
  first = after [];
  second = after past;
  once = just_synced [] refl refl;
  again = just_synced past refl refl;
  agree = record { board = refl; link = refl; enabled = refl };
  generations = (refl, refl);
}
