use Rattle.link_model.proofs.News.{all-arrive, all-news-later}
use Rattle.link_model.proofs.laws.news_law.Goals as goal

pub returns-clause-arrives : goal.returns-clause-arrives
returns-clause-arrives c = all-arrive

pub returns-clause-news : goal.returns-clause-news
returns-clause-news c = all-news-later
