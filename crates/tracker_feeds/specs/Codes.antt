-- How the logic stores what is seen of feeds.
use Rattle.std.specs.Prelude.{◌≡◌, ℕ, List, Option, Some, None, refl}
use Rattle.std.specs.Coded.{Coded, code_by, coded_list, coded_option, coded×, coded_ℕ}
use Rattle.presence_journal.specs.contracts.rows.Item as one_item
use Rattle.presence_journal.specs.declared.rows.Item.{Item}
use Rattle.presence_journal.specs.Queue.{Waiting, Behind, Queued}
use Rattle.tracker_feeds.specs.Fed.{Subscriber, Fed}

abbrev pub listed : Waiting → Option (List Item)
listed Behind = None
listed (Queued q) = Some q

abbrev pub waiting_of : Option (List Item) → Waiting
waiting_of None = Behind
waiting_of (Some q) = Queued q

pub waiting_of-listed : (w : Waiting) → waiting_of (listed w) ≡ w
waiting_of-listed Behind = refl
waiting_of-listed (Queued q) = refl

abbrev pub waiting_code : Coded Waiting
waiting_code =
    code_by (Option (List Item)) (coded_option (coded_list one_item.the_row.coded)) listed waiting_of waiting_of-listed

abbrev pub subscriber_code : Coded Subscriber
subscriber_code = code_by (List ℕ × Waiting) (coded× (coded_list coded_ℕ) waiting_code) (λ s. (s.topic, s.waiting))
    (λ p. record { topic = p.0; waiting = p.1 }) (λ _. refl)

abbrev pub fed_code : Coded Fed
fed_code = code_by (List (ℕ × Subscriber) × ℕ) (coded× (coded_list (coded× coded_ℕ subscriber_code)) coded_ℕ)
    (λ f. (f.subscribers, f.delivered)) (λ p. record { subscribers = p.0; delivered = p.1 }) (λ _. refl)
